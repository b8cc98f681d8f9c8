use Rattle.std.proofs.Common.{◌≡◌, ◌++◌, map, length, IsTrue}
use Rattle.std.specs.Vec.Iter.{into_iter_items, into_iter_len}
use Rattle.argo_model.specs.Runs.Final.{final_domain}
use Rattle.section_world.specs.Young.{are_shown}
use Rattle.domains.proofs.domains.Domains.into_finals.Given as goal

-- the rows so far and those of the domains that are left are those of all, and the generations of these fit their rows
abbrev pub invariant-loop-id : goal.invariant-loop-id
invariant-loop-id g l =
    (l.finals ++ map final_domain (into_iter_items l.id-iterator) ≡ map final_domain l.fn.self)
    × IsTrue (are_shown (into_iter_items l.id-iterator))
    × (into_iter_len l.id-iterator ≡ length (into_iter_items l.id-iterator))
