use Rattle.std.proofs.Common.{rules}
use Rattle.argo_model.specs.Runs.Report.{done_line}
use Rattle.report_text.proofs.WroteLemmas.{Wrote-one_more, Wrote-stop_in}
use Rattle.report_text.proofs.report.write_done.Goals as goal

pub returns-in_err-write_line : goal.returns-in_err-write_line
returns-in_err-write_line g c =
    Wrote-stop_in done_line c.args.all.now c.loop-done-test.true c.done-item.is c.loop-done.invariant
    c.from_residual.result _ c.in_err-write_line.was (search rules) c.write_line.ensures

pub loop-done-preserved : goal.loop-done-preserved
loop-done-preserved g c =
    Wrote-one_more done_line c.args.all.now c.loop-done-test.true c.done-item.is c.loop-done.invariant c.in_ok-write_line.ensures
