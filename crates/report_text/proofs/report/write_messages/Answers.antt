use Rattle.std.proofs.Common.{rules}
use Rattle.argo_model.specs.Runs.Report.{message_line}
use Rattle.report_text.proofs.WroteLemmas.{Wrote-one_more, Wrote-stop_in}
use Rattle.report_text.proofs.report.write_messages.Goals as goal

pub returns-in_err-write_line : goal.returns-in_err-write_line
returns-in_err-write_line g c =
    Wrote-stop_in message_line c.args.all.now c.loop-message-test.true c.message-item.is c.loop-message.invariant
    c.from_residual.result _ c.in_err-write_line.was (search rules) c.write_line.ensures

pub loop-message-preserved : goal.loop-message-preserved
loop-message-preserved g c =
    Wrote-one_more message_line c.args.all.now c.loop-message-test.true c.message-item.is c.loop-message.invariant c.in_ok-write_line.ensures
