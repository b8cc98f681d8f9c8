use Rattle.std.proofs.Common.{◌-◌, length}
use Rattle.guest_pages.specs.Rows.{row_bytes}
use Rattle.ring_space.proofs.RunLaws.{IsReading}
use Rattle.ring_space.proofs.runs.read_bytes.Given as goal

abbrev pub invariant-loop-done : goal.invariant-loop-done
invariant-loop-done l = IsReading (row_bytes l.row) l.from l.done l.initial.buf l.buf

abbrev pub decreases-loop-done : goal.decreases-loop-done
decreases-loop-done l = length l.initial.buf - l.done
