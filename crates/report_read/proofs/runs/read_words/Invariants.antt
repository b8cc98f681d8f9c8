-- The words so far are those of the runs.
use Rattle.std.proofs.Common.{length}
use Rattle.report_read.proofs.ScheduleLaws.{IsReadTo}
use Rattle.report_read.proofs.runs.read_words.Given as goal

abbrev pub invariant-loop-run : goal.invariant-loop-run
invariant-loop-run l = IsReadTo l.text l.rest l.runs l.last

abbrev pub decreases-loop-run : goal.decreases-loop-run
decreases-loop-run l = length l.rest
