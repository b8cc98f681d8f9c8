use Rattle.std.proofs.Common.{◌≡◌, ◌++◌, map}
use Rattle.argo_model.specs.Runs.Closed.{closed_ring}
use Rattle.flat_live.proofs.closed_rings.rings_of.Given as goal

abbrev pub invariant-loop-key : goal.invariant-loop-key
invariant-loop-key l = l.closed ++ map closed_ring l.key-iterator ≡ map closed_ring l.rings.entries
