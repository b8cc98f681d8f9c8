use Rattle.std.proofs.Common.{length}
use Rattle.ring_space.proofs.RunLaws.{IsWriting}
use Rattle.ring_space.proofs.runs.write_bytes.Given as goal

abbrev pub invariant-loop-rest : goal.invariant-loop-rest
invariant-loop-rest l = IsWriting l.initial.row l.row l.fn.from l.at l.fn.bytes l.rest

abbrev pub decreases-loop-rest : goal.decreases-loop-rest
decreases-loop-rest l = length l.rest
