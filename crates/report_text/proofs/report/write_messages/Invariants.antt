-- The texts so far are written.
use Rattle.std.proofs.Common.{take, Ok}
use Rattle.std.specs.List.{flat_map}
use Rattle.argo_model.specs.Runs.Report.{message_line}
use Rattle.report_text.specs.Wrote.{Wrote}
use Rattle.report_text.proofs.report.write_messages.Given as goal

abbrev pub invariant-loop-message : goal.invariant-loop-message
invariant-loop-message g l =
    Wrote g.K.Sink.written g.K.Sink.faults l.initial.out l.out (flat_map message_line (take l.message-index l.all)) (Ok tt)
