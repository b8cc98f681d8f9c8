use Rattle.pending_list.proofs.RiseLaws.{keys_increase}
use Rattle.pending_list.proofs.notices.Notices.as_slice.Goals as goal

pub returns-clause-rising : goal.returns-clause-rising
returns-clause-rising c = rw (← c.self.view_is) (keys_increase 0 _ c.self.invariant)
