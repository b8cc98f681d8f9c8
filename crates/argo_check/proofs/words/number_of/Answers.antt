use Rattle.std.proofs.Common.{arith, ◌∙◌}
use Rattle.argo_check.proofs.WordLaws.{no_number}
use Rattle.argo_check.proofs.words.number_of.Goals as goal

pub returns-in_err-checked_mul : goal.returns-in_err-checked_mul
returns-in_err-checked_mul c =
    c.from_residual.ensures ∙ no_number c.args.word.now c.loop-digit.digit-index 0 c.loop-digit-test.true (omega (arith, c.in_err-checked_mul.ensures, c.loop-digit.invariant.0))

pub returns-in_err-n : goal.returns-in_err-n
returns-in_err-n c =
    c.from_residual-in_err-n.ensures ∙ no_number c.args.word.now c.loop-digit.digit-index 0 c.loop-digit-test.true
    (omega (arith, c.in_err-n.ensures, c.in_ok-checked_mul.ensures.1, c.from.ensures, c.loop-digit.invariant.0))
