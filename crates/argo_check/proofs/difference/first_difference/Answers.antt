use Rattle.std.proofs.Common.{arith, ap, Err}
use Rattle.argo_model.specs.Runs.Report.{report_of}
use Rattle.argo_check.proofs.CompareLaws.{whole_judged, cut_judged}
use Rattle.argo_check.proofs.difference.first_difference.Goals as goal

pub returns-in-Ok : goal.returns-in-Ok
returns-in-Ok c =
    let old = c.new-comparer.result in
    let new = c.write_report.new.out in
    whole_judged c.args.report.now new.report.now (report_of c.args.shown.now) old.report.now new.same old.same new.other old.other c.difference.result
    c.new-comparer.ensures.report c.new-comparer.ensures.same c.new-comparer.ensures.other c.in-Ok.ensures.whole new.within new.differs c.difference.ensures

pub returns-in-Err-Sink : goal.returns-in-Err-Sink
returns-in-Err-Sink c =
    let old = c.new-comparer.result in
    let new = c.write_report.new.out in
    cut_judged c.args.report.now new.report.now (report_of c.args.shown.now) old.report.now new.same old.same new.faults new.other old.other c.difference-in-Err-Sink.result
    c.new-comparer.ensures.report c.new-comparer.ensures.same c.new-comparer.ensures.other c.in-Err-Sink.ensures.cut_short new.within new.differs new.stuck
    (omega (arith, c.in-Err-Sink.ensures.failed (ap Err c.in-Err-Sink.field-0-is), c.new-comparer.ensures.faults)) c.difference-in-Err-Sink.ensures
