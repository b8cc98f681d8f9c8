use Rattle.std.proofs.Common.{◌∙◌}
use Rattle.shared_parts.proofs.SeatLaws.{without_absent}
use Rattle.shared_parts.proofs.rings.Rings.end.Goals as goal

pub returns-in_default-clause-same : goal.returns-in_default-clause-same
returns-in_default-clause-same c = λ none. c.take.ensures.left ∙ without_absent c.args.self.now c.args.key none
