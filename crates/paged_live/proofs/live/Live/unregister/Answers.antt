use Rattle.std.proofs.Common.{sym, ◌∙◌}
use Rattle.paged_live.proofs.EndLaws.{no_ring}
use Rattle.paged_live.proofs.live.Live.unregister.Goals as goal

pub returns-else-take_ring-clause-left : goal.returns-else-take_ring-clause-left
returns-else-take_ring-clause-left c =
    c.take_ring.ensures.left ∙ no_ring c.args.self.now c.args.key (sym c.take_ring.ensures.stood ∙ c.if-take_ring.false)
