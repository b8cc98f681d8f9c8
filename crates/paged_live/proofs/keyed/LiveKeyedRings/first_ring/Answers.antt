use Rattle.paged_live.proofs.KeyedLaws.{first_there, first_absent}
use Rattle.paged_live.proofs.keyed.LiveKeyedRings.first_ring.Goals as goal

pub returns-clause-there : goal.returns-clause-there
returns-clause-there c = first_there c.args.self.now c.lowest_key.result c.lowest_key.ensures

pub returns-clause-none : goal.returns-clause-none
returns-clause-none c = first_absent c.args.self.now c.lowest_key.result c.lowest_key.ensures
