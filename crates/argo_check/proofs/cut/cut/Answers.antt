use Rattle.std.proofs.Common.{arith}
use Rattle.argo_check.proofs.CutLaws.{mark_inside}
use Rattle.argo_check.proofs.cut.cut.Goals as goal

pub loop-at-preserved : goal.loop-at-preserved
loop-at-preserved c = λ before after mark.
    omega (arith, c.loop-at.invariant before after mark, c.in_default.ensures before after mark)

pub returns : goal.returns
returns c = λ before after mark.
    omega (arith, c.loop-at.invariant before after mark, mark_inside c.args.text.now before after mark, c.loop-at-test.false)
