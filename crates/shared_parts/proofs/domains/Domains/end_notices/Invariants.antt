use Rattle.std.proofs.Common.{◌≡◌}
use Rattle.shared_parts.proofs.domains.Domains.end_notices.Given as goal

abbrev pub invariant-loop : goal.invariant-loop
invariant-loop g l = l.self ≡ l.initial.self
