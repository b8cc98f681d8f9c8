use Rattle.std.proofs.Common.{inl, inr, refl}
use Rattle.report_read.proofs.ReportLaws.{not_opened, not_named, no_word, names_where, refused_where, only_where}
use Rattle.report_read.proofs.runs.read_runs.Goals as goal

pub returns-in_default-clause-refused : goal.returns-in_default-clause-refused
returns-in_default-clause-refused c = not_opened c.args.version c.args.report.now c.in_default.ensures

pub returns-in_default-clause-only : goal.returns-in_default-clause-only
returns-in_default-clause-only c = λ runs names. absurd (not_named c.args.version c.args.report.now c.in_default.ensures runs names)

pub returns-in_default-behind_name-clause-refused : goal.returns-in_default-behind_name-clause-refused
returns-in_default-behind_name-clause-refused c =
    inr (refl, (c.in-Some.rest.now, c.in-Some.ensures), no_word c.args.version c.args.report.now c.in-Some.rest.now c.in-Some.ensures c.in_default-behind_name.ensures)

pub returns-in_default-behind_name-clause-only : goal.returns-in_default-behind_name-clause-only
returns-in_default-behind_name-clause-only c = λ runs names.
    absurd (no_word c.args.version c.args.report.now c.in-Some.rest.now c.in-Some.ensures c.in_default-behind_name.ensures runs names)

pub returns-clause-runs : goal.returns-clause-runs
returns-clause-runs c =
    rw c.ok_or.ensures.value
    (names_where c.args.version c.args.report.now c.in-Some.rest.now c.in-Some.ensures c.in-Some-behind_name.words.now c.in-Some-behind_name.ensures
    c.in_ok-read_words.field-0 c.in_ok-read_words.ensures)

pub returns-clause-refused : goal.returns-clause-refused
returns-clause-refused c =
    rw c.ok_or.ensures.value
    (refused_where c.args.version c.args.report.now c.in-Some.rest.now c.in-Some.ensures c.in-Some-behind_name.words.now c.in-Some-behind_name.ensures
    c.in_ok-read_words.field-0 c.in_ok-read_words.ensures)

pub returns-clause-only : goal.returns-clause-only
returns-clause-only c = λ runs names.
    rw c.ok_or.ensures.value
    (only_where c.args.version c.args.report.now c.in-Some.rest.now c.in-Some.ensures c.in-Some-behind_name.words.now c.in-Some-behind_name.ensures
    c.in_ok-read_words.field-0 c.in_ok-read_words.ensures runs names)
