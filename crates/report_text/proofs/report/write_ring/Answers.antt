use Rattle.std.proofs.Common.{rules, ◌++◌}
use Rattle.std.specs.List.{flat_map}
use Rattle.argo_model.specs.Runs.Report.{message_lines, notice_line, slots_lines}
use Rattle.report_text.proofs.WroteLemmas.{Wrote-then, Wrote-stop}
use Rattle.report_text.proofs.report.write_ring.Goals as goal

pub returns-in_err-write_line : goal.returns-in_err-write_line
returns-in_err-write_line g c =
    let r = c.args.ring.now in
    Wrote-stop c.from_residual.result (message_lines r ++ (flat_map notice_line r.notices ++ slots_lines r.slots)) _ c.in_err-write_line.was (search rules) c.write_line.ensures

pub returns-in_err-write_untaken : goal.returns-in_err-write_untaken
returns-in_err-write_untaken g c =
    let r = c.args.ring.now in
    Wrote-then c.in_ok-write_line.ensures
    (Wrote-stop c.from_residual-in_err-write_untaken.result (flat_map notice_line r.notices ++ slots_lines r.slots) _ c.in_err-write_untaken.was (search rules) c.write_untaken.ensures)

pub returns-in_err-write_notices : goal.returns-in_err-write_notices
returns-in_err-write_notices g c =
    let notices = rw c.as_slice.ensures at c.write_notices.ensures in
    Wrote-then c.in_ok-write_line.ensures
    (Wrote-then c.in_ok-write_untaken.ensures
    (Wrote-stop c.from_residual-in_err-write_notices.result (slots_lines c.args.ring.now.slots) _ c.in_err-write_notices.was (search rules) notices))

pub returns : goal.returns
returns g c =
    let notices = rw c.as_slice.ensures at c.in_ok-write_notices.ensures in
    let slots = rw c.as_slice-2.ensures at c.write_slots.ensures in
    Wrote-then c.in_ok-write_line.ensures (Wrote-then c.in_ok-write_untaken.ensures (Wrote-then notices slots))
