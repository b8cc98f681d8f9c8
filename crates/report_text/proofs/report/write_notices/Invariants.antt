-- The texts so far are written.
use Rattle.std.proofs.Common.{take, Ok}
use Rattle.std.specs.List.{flat_map}
use Rattle.argo_model.specs.Runs.Report.{notice_line}
use Rattle.report_text.specs.Wrote.{Wrote}
use Rattle.report_text.proofs.report.write_notices.Given as goal

abbrev pub invariant-loop-notice : goal.invariant-loop-notice
invariant-loop-notice g l =
    Wrote g.K.Sink.written g.K.Sink.faults l.initial.out l.out (flat_map notice_line (take l.notice-index l.all)) (Ok tt)
