-- The totals so far are written.
use Rattle.std.proofs.Common.{take, Ok}
use Rattle.std.specs.List.{flat_map, enumerate_from}
use Rattle.argo_model.specs.Runs.Report.{totals_line}
use Rattle.report_text.specs.Wrote.{Wrote}
use Rattle.report_text.proofs.report.write_totals.Given as goal

abbrev pub invariant-loop-vcpu : goal.invariant-loop-vcpu
invariant-loop-vcpu g l =
    Wrote g.K.Sink.written g.K.Sink.faults l.initial.out l.out (flat_map totals_line (take l.vcpu (enumerate_from 0 l.all))) (Ok tt)
