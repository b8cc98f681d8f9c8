use Rattle.argo_outside.specs.Faults.{Rose}
use Rattle.script_text.specs.Scripts.{scripts_of}
use Rattle.argo_check.specs.Check.{IsAnswer, IsAnswerFor, IsFault}
use Rattle.argo_check.proofs.SaidLaws.{said_as, script_due, no_script_due}
use Rattle.argo_check.proofs.input.check_parts.Goals as goal

pub returns-in-Ok-clause-ends : goal.returns-in-Ok-clause-ends
returns-in-Ok-clause-ends g c =
    let given = scripts_of c.args.script.now in
    let scripts = c.in-Ok.scripts in
    said_as (IsAnswer c.args.form scripts c.args.report.now) (IsAnswerFor c.args.form given c.args.report.now)
    (script_due c.args.form given scripts c.args.report.now c.in-Ok.ensures.read)
    (g.K.Sink.written c.args.out.now) (g.K.Sink.written c.check_report.new.out)
    (Rose (g.K.Sink.faults c.args.out.now) (g.K.Sink.faults c.check_report.new.out)) c.check_report.result c.check_report.ensures.ends

pub returns-in-Err-Script-clause-ends : goal.returns-in-Err-Script-clause-ends
returns-in-Err-Script-clause-ends g c =
    let given = scripts_of c.args.script.now in
    let f = c.in-Err-Script.fault in
    said_as (IsFault f) (IsAnswerFor c.args.form given c.args.report.now)
    (no_script_due c.args.form given f c.args.report.now (rw c.in-Err-Script.field-0-is at c.in-Err-Script.ensures.fault))
    (g.K.Sink.written c.args.out.now) (g.K.Sink.written c.tell_fault.new.out)
    (Rose (g.K.Sink.faults c.args.out.now) (g.K.Sink.faults c.tell_fault.new.out)) c.tell_fault.result (rw c.in-Err-Script.fault-is at c.tell_fault.ensures.ends)
