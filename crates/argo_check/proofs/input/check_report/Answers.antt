use Rattle.std.proofs.Common.{List, ◌++◌, sym, subst}
use Rattle.argo_outside.specs.Faults.{Rose}
use Rattle.argo_model.specs.declared.closing.Run.{Run}
use Rattle.argo_model.specs.Runs.Run.{IsComplete}
use Rattle.argo_model.specs.Runs.Final.{schedule_of}
use Rattle.argo_check.specs.declared.status.CheckStatus.TheVariants as s
use Rattle.argo_check.specs.Answers.{yes_text, no_text}
use Rattle.argo_check.specs.Check.{IsAnswer, further_text}
use Rattle.argo_check.specs.Said.{Just, Said}
use Rattle.argo_check.specs.Verdicts.{IsRight}
use Rattle.argo_check.proofs.SaidLaws.{said_as, yes_due, no_due}
use Rattle.argo_check.proofs.input.check_report.Goals as goal

pub tell_yes-requires : goal.tell_yes-requires
tell_yes-requires g c =
    let right : IsRight c.args.scripts.now c.args.report.now c.in-Ok-Right.runs = rw c.in-Ok-Right.field-0-is at c.in-Ok-Right.ensures in
    let P : List Run → Type 0 = λ rs. IsComplete c.args.scripts.now (schedule_of rs) in
    subst P (sym c.as_slice.ensures) right.schedule.complete

pub returns-in-Ok-Right-clause-ends : goal.returns-in-Ok-Right-clause-ends
returns-in-Ok-Right-clause-ends g c =
    let runs = c.in-Ok-Right.runs in
    let right : IsRight c.args.scripts.now c.args.report.now runs = rw c.in-Ok-Right.field-0-is at c.in-Ok-Right.ensures in
    let rose = Rose (g.K.Sink.faults c.args.out.now) (g.K.Sink.faults c.tell_yes.new.out) in
    let P : List Run → Type 0 = λ rs. Said (Just s.Yes (yes_text ++ further_text c.args.form c.args.scripts.now (schedule_of rs)))
    (g.K.Sink.written c.args.out.now) (g.K.Sink.written c.tell_yes.new.out) rose c.tell_yes.result in
    said_as (Just s.Yes (yes_text ++ further_text c.args.form c.args.scripts.now (schedule_of runs))) (IsAnswer c.args.form c.args.scripts.now c.args.report.now)
    (yes_due c.args.form c.args.scripts.now c.args.report.now runs right)
    (g.K.Sink.written c.args.out.now) (g.K.Sink.written c.tell_yes.new.out) rose c.tell_yes.result (subst P c.as_slice.ensures c.tell_yes.ensures.ends)

pub returns-in-Ok-Wrong-clause-ends : goal.returns-in-Ok-Wrong-clause-ends
returns-in-Ok-Wrong-clause-ends g c =
    let line = c.in-Ok-Wrong.line in
    said_as (Just (s.No line) (no_text line)) (IsAnswer c.args.form c.args.scripts.now c.args.report.now)
    (no_due c.args.form c.args.scripts.now c.args.report.now line (rw c.in-Ok-Wrong.field-0-is at c.in-Ok-Wrong.ensures))
    (g.K.Sink.written c.args.out.now) (g.K.Sink.written c.tell_no.new.out) (Rose (g.K.Sink.faults c.args.out.now) (g.K.Sink.faults c.tell_no.new.out))
    c.tell_no.result c.tell_no.ensures.ends
