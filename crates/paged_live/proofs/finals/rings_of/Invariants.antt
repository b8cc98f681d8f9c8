use Rattle.std.proofs.Common.{◌≡◌, ◌++◌, map, length}
use Rattle.paged_live.specs.Finals.{final_of}
use Rattle.paged_live.proofs.finals.rings_of.Given as goal

abbrev pub invariant-loop-key : goal.invariant-loop-key
invariant-loop-key l = l.finals ++ map final_of l.rings ≡ map final_of l.initial.rings

abbrev pub decreases-loop-key : goal.decreases-loop-key
decreases-loop-key l = length l.rings
