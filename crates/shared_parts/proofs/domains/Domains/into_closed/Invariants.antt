use Rattle.std.proofs.Common.{◌≡◌, ◌++◌, map}
use Rattle.std.specs.Map.{keys_of}
use Rattle.shared_parts.proofs.domains.Domains.into_closed.Given as goal

-- the ids of the rows so far and of the domains that are left are those of all
abbrev pub invariant-loop-id : goal.invariant-loop-id
invariant-loop-id g l = map (λ x. x.id) l.closed ++ keys_of l.id-iterator ≡ keys_of l.fn.self
