-- The texts so far are written.
use Rattle.std.proofs.Common.{take, Ok}
use Rattle.std.specs.List.{flat_map}
use Rattle.argo_model.specs.Runs.Report.{done_line}
use Rattle.report_text.specs.Wrote.{Wrote}
use Rattle.report_text.proofs.report.write_done.Given as goal

abbrev pub invariant-loop-done : goal.invariant-loop-done
invariant-loop-done g l =
    Wrote g.K.Sink.written g.K.Sink.faults l.initial.out l.out (flat_map done_line (take l.done-index l.all)) (Ok tt)
