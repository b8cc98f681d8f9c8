use Rattle.std.proofs.Common.{◌≡◌, ◌++◌, map}
use Rattle.paged_live.specs.Closed.{closed_of, closed_all}
use Rattle.paged_live.proofs.closed.rings_of.Given as goal

abbrev pub invariant-loop-key : goal.invariant-loop-key
invariant-loop-key l = l.closed ++ closed_all l.rings l.key-iterator ≡ map closed_of l.rings
