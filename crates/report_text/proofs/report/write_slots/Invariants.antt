-- The rows so far are written.
use Rattle.std.proofs.Common.{Ok, ◌-◌, ◌≤◌}
use Rattle.report_text.specs.Lines.{rows_text}
use Rattle.report_text.specs.Wrote.{Wrote}
use Rattle.report_text.proofs.report.write_slots.Given as goal

abbrev pub invariant-blocks-2 : goal.invariant-blocks-2
invariant-blocks-2 g l =
    Wrote g.K.Sink.written g.K.Sink.faults l.initial.out l.out (rows_text l.slots 0 l.from) (Ok tt) × l.from ≤ l.rows

abbrev pub decreases-blocks-2 : goal.decreases-blocks-2
decreases-blocks-2 g l = l.rows - l.from
