use Rattle.std.proofs.Common.{rules}
use Rattle.argo_model.specs.Runs.Report.{notice_line}
use Rattle.report_text.proofs.WroteLemmas.{Wrote-one_more, Wrote-stop_in}
use Rattle.report_text.proofs.report.write_notices.Goals as goal

pub returns-in_err-write_line : goal.returns-in_err-write_line
returns-in_err-write_line g c =
    Wrote-stop_in notice_line c.args.all.now c.loop-notice-test.true c.notice-item.is c.loop-notice.invariant
    c.from_residual.result _ c.in_err-write_line.was (search rules) c.write_line.ensures

pub loop-notice-preserved : goal.loop-notice-preserved
loop-notice-preserved g c =
    Wrote-one_more notice_line c.args.all.now c.loop-notice-test.true c.notice-item.is c.loop-notice.invariant c.in_ok-write_line.ensures
