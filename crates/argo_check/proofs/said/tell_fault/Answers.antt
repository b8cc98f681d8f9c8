use Rattle.std.proofs.Common.{List, ℕ, ◌∙◌, subst}
use Rattle.argo_outside.specs.Faults.{Rose}
use Rattle.argo_check.specs.declared.status.CheckStatus.TheVariants as s
use Rattle.argo_check.specs.Answers.{fault_text}
use Rattle.argo_check.specs.Check.{IsFault}
use Rattle.argo_check.specs.Said.{Told}
use Rattle.argo_check.proofs.SaidLaws.{told_said, fault_due}
use Rattle.argo_check.proofs.said.tell_fault.Goals as goal

pub returns-clause-ends : goal.returns-clause-ends
returns-clause-ends g c =
    let f = c.args.fault in
    let rose = Rose (g.K.Sink.faults c.args.out.now) (g.K.Sink.faults c.tell.new.out) in
    let P : List ℕ → Type 0 = λ t. Told (s.Script f.line f.kind) t (g.K.Sink.written c.args.out.now) (g.K.Sink.written c.tell.new.out) rose c.tell.result in
    told_said (IsFault f) (s.Script f.line f.kind) (fault_text f) (g.K.Sink.written c.args.out.now) (g.K.Sink.written c.tell.new.out) rose c.tell.result
    (λ h. h) (fault_due f) (subst P (c.as_bytes.ensures.value ∙ c.in-Ok.ensures) c.tell.ensures.ends)
