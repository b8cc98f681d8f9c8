use Rattle.std.proofs.Common.{List, ℕ, subst}
use Rattle.argo_outside.specs.Faults.{Rose}
use Rattle.argo_check.specs.Check.{IsCheck}
use Rattle.argo_check.specs.Said.{Said}
use Rattle.argo_check.proofs.EndLaws.{ends_answering, ends_agreeing}
use Rattle.argo_check.proofs.program.check_source.Goals as goal

pub returns-in-Ok-clause-answer : goal.returns-in-Ok-clause-answer
returns-in-Ok-clause-answer g c =
    let rose = Rose (g.K.Sink.faults c.args.out.now) (g.K.Sink.faults c.check_input.new.out) in
    let P : List ℕ → Type 0 = λ input. Said (IsCheck c.args.form input) (g.K.Sink.written c.args.out.now) (g.K.Sink.written c.check_input.new.out) rose c.check_input.result in
    ends_answering c.args.form (g.S.Source.left c.args.src.now) (g.S.Source.left c.read_input.new.src) (g.K.Sink.written c.args.out.now) (g.K.Sink.written c.check_input.new.out)
    c.in-Ok.input rose c.in-Ok.ensures.read c.check_input.result (subst P c.as_slice.ensures c.check_input.ensures.ends)

pub returns-in-Ok-clause-agrees : goal.returns-in-Ok-clause-agrees
returns-in-Ok-clause-agrees g c =
    let rose = Rose (g.K.Sink.faults c.args.out.now) (g.K.Sink.faults c.check_input.new.out) in
    let P : List ℕ → Type 0 = λ input. Said (IsCheck c.args.form input) (g.K.Sink.written c.args.out.now) (g.K.Sink.written c.check_input.new.out) rose c.check_input.result in
    ends_agreeing c.args.form (g.S.Source.left c.args.src.now) (g.S.Source.left c.read_input.new.src) (g.K.Sink.written c.args.out.now) (g.K.Sink.written c.check_input.new.out)
    c.in-Ok.input rose c.in-Ok.ensures.read c.check_input.result (subst P c.as_slice.ensures c.check_input.ensures.ends)
