use Rattle.std.proofs.Common.{◌≡◌}
use Rattle.shared_parts.proofs.domains.Domains.drop_wilds.Given as goal

abbrev pub invariant-loop-dom : goal.invariant-loop-dom
invariant-loop-dom g l = l.self ≡ l.initial.self
