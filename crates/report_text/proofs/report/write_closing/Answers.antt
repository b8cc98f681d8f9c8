use Rattle.std.proofs.Common.{rules}
use Rattle.argo_model.specs.Runs.Report.{end_line}
use Rattle.report_text.proofs.WroteLemmas.{Wrote-then, Wrote-stop}
use Rattle.report_text.proofs.report.write_closing.Goals as goal

pub returns-in_err-write_totals : goal.returns-in_err-write_totals
returns-in_err-write_totals g c =
    let totals = rw c.as_slice.ensures at c.write_totals.ensures in
    Wrote-stop c.from_residual.result end_line _ c.in_err-write_totals.was (search rules) totals

pub returns : goal.returns
returns g c = let totals = rw c.as_slice.ensures at c.in_ok-write_totals.ensures in Wrote-then totals c.write_line.ensures
