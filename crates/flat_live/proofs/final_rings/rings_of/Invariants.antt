use Rattle.std.proofs.Common.{◌≡◌, ◌++◌, map, length}
use Rattle.argo_model.specs.Runs.Final.{final_ring}
use Rattle.flat_live.proofs.final_rings.rings_of.Given as goal

abbrev pub invariant-loop-key : goal.invariant-loop-key
invariant-loop-key l = l.finals ++ map (final_ring l.memory) l.rings.entries ≡ map (final_ring l.memory) l.initial.rings.entries

abbrev pub decreases-loop-key : goal.decreases-loop-key
decreases-loop-key l = length l.rings.entries
