use Rattle.std.proofs.Common.{refl}
use Rattle.argo_outside.specs.Faults.{Rose}
use Rattle.script_text.specs.Scripts.{scripts_of}
use Rattle.argo_check.specs.declared.status.CheckStatus.TheVariants as s
use Rattle.argo_check.specs.Answers.{large_text, mark_text}
use Rattle.argo_check.specs.Check.{IsAnswerFor, IsCheck}
use Rattle.argo_check.proofs.SaidLaws.{told_said, said_as, parts_due}
use Rattle.argo_check.proofs.input.check_input.Goals as goal

pub returns-then-input-gt-MOST_BYTES-clause-ends : goal.returns-then-input-gt-MOST_BYTES-clause-ends
returns-then-input-gt-MOST_BYTES-clause-ends g c =
    told_said (IsCheck c.args.form c.args.input.now) s.Large large_text (g.K.Sink.written c.args.out.now) (g.K.Sink.written c.tell.new.out)
    (Rose (g.K.Sink.faults c.args.out.now) (g.K.Sink.faults c.tell.new.out)) c.tell.result (λ h. h) (c.if-input-gt-MOST_BYTES.true, refl) c.tell.ensures.ends

pub returns-in-Some-clause-ends : goal.returns-in-Some-clause-ends
returns-in-Some-clause-ends g c =
    let script = c.in-Some.script.now in
    let report = c.in-Some.report.now in
    said_as (IsAnswerFor c.args.form (scripts_of script) report) (IsCheck c.args.form c.args.input.now)
    (parts_due c.args.form c.args.input.now script report c.if-input-gt-MOST_BYTES.false c.in-Some.ensures)
    (g.K.Sink.written c.args.out.now) (g.K.Sink.written c.check_parts.new.out)
    (Rose (g.K.Sink.faults c.args.out.now) (g.K.Sink.faults c.check_parts.new.out)) c.check_parts.result c.check_parts.ensures.ends

pub returns-in-None-clause-ends : goal.returns-in-None-clause-ends
returns-in-None-clause-ends g c =
    told_said (IsCheck c.args.form c.args.input.now) s.Mark mark_text (g.K.Sink.written c.args.out.now) (g.K.Sink.written c.tell-in-None.new.out)
    (Rose (g.K.Sink.faults c.args.out.now) (g.K.Sink.faults c.tell-in-None.new.out)) c.tell-in-None.result (λ h. h)
    (c.if-input-gt-MOST_BYTES.false, c.in-None.ensures, refl) c.tell-in-None.ensures.ends
