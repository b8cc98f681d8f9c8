use Rattle.std.proofs.Common.{rules}
use Rattle.argo_model.specs.Runs.Report.{closing_text}
use Rattle.report_text.proofs.WroteLemmas.{Wrote-then, Wrote-stop}
use Rattle.report_text.proofs.report.write_summary_lines.Goals as goal

pub returns-in_err-write_line : goal.returns-in_err-write_line
returns-in_err-write_line g c =
    Wrote-stop c.from_residual.result (closing_text c.args.f.now) _ c.in_err-write_line.was (search rules) c.write_line.ensures

pub returns : goal.returns
returns g c = Wrote-then c.in_ok-write_line.ensures c.write_closing.ensures
