use Rattle.std.proofs.Common.{rules, ◌++◌}
use Rattle.std.specs.List.{flat_map}
use Rattle.argo_model.specs.Runs.Report.{schedule_line, done_line, domain_text, closing_text}
use Rattle.report_text.proofs.WroteLemmas.{Wrote-then, Wrote-stop}
use Rattle.report_text.proofs.report.write_report_lines.Goals as goal

pub returns-in_err-write_line : goal.returns-in_err-write_line
returns-in_err-write_line g c =
    let f = c.args.f.now in
    Wrote-stop c.from_residual.result
    (schedule_line f.runs ++ (flat_map done_line f.done ++ (flat_map (domain_text f.version) f.domains ++ closing_text f)))
    _ c.in_err-write_line.was (search rules) c.write_line.ensures

pub returns-in_err-write_line-2 : goal.returns-in_err-write_line-2
returns-in_err-write_line-2 g c =
    let f = c.args.f.now in
    let schedule = rw c.as_slice.ensures at c.write_line-2.ensures in
    Wrote-then c.in_ok-write_line.ensures
    (Wrote-stop c.from_residual-in_err-write_line-2.result (flat_map done_line f.done ++ (flat_map (domain_text f.version) f.domains ++ closing_text f))
    _ c.in_err-write_line-2.was (search rules) schedule)

pub returns-in_err-write_done : goal.returns-in_err-write_done
returns-in_err-write_done g c =
    let f = c.args.f.now in
    let schedule = rw c.as_slice.ensures at c.in_ok-write_line-2.ensures in
    let done = rw c.as_slice-2.ensures at c.write_done.ensures in
    Wrote-then c.in_ok-write_line.ensures
    (Wrote-then schedule
    (Wrote-stop c.from_residual-in_err-write_done.result (flat_map (domain_text f.version) f.domains ++ closing_text f)
    _ c.in_err-write_done.was (search rules) done))

pub returns-in_err-write_domains : goal.returns-in_err-write_domains
returns-in_err-write_domains g c =
    let schedule = rw c.as_slice.ensures at c.in_ok-write_line-2.ensures in
    let done = rw c.as_slice-2.ensures at c.in_ok-write_done.ensures in
    let domains = rw c.as_slice-3.ensures at c.write_domains.ensures in
    Wrote-then c.in_ok-write_line.ensures
    (Wrote-then schedule
    (Wrote-then done
    (Wrote-stop c.from_residual-in_err-write_domains.result (closing_text c.args.f.now) _ c.in_err-write_domains.was (search rules) domains)))

pub returns : goal.returns
returns g c =
    let schedule = rw c.as_slice.ensures at c.in_ok-write_line-2.ensures in
    let done = rw c.as_slice-2.ensures at c.in_ok-write_done.ensures in
    let domains = rw c.as_slice-3.ensures at c.in_ok-write_domains.ensures in
    Wrote-then c.in_ok-write_line.ensures (Wrote-then schedule (Wrote-then done (Wrote-then domains c.write_closing.ensures)))
