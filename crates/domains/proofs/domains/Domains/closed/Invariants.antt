use Rattle.std.proofs.Common.{◌≡◌, ◌++◌, map, drop, IsTrue}
use Rattle.argo_model.specs.Runs.Closed.{closed_domain}
use Rattle.section_world.specs.Young.{are_shown}
use Rattle.domains.proofs.domains.Domains.closed.Given as goal

-- the rows so far and those of the domains that are left are those of all, and the generations of these fit their rows
abbrev pub invariant-loop-id : goal.invariant-loop-id
invariant-loop-id g l = (l.closed ++ map closed_domain (drop l.id-index l.self) ≡ map closed_domain l.self) × IsTrue (are_shown (drop l.id-index l.self))
