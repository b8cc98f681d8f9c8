use Rattle.std.proofs.Common.{sym, ◌∙◌, ap, slice_get, arith}
use Rattle.iov_plan.proofs.RangeLaws.{pieces-rest}
use Rattle.iov_plan.proofs.rest.PiecesIterator.next.Goals as goal

pub returns-clause-steps : goal.returns-clause-steps
returns-clause-steps c =
    let p = c.self.inside in
    let is_first = c.in_ok-piece.ensures.first ∙ ap (λ ps. slice_get ps 0) (sym c.self.view_is) in
    sym c.self.view_is ∙ pieces-rest p.page p.off p.left c.in_ok-piece.piece c.self.invariant.0 is_first

pub returns-clause-goes : goal.returns-clause-goes
returns-clause-goes c = let e = returns-clause-steps c in record { on = λ _. (tt, tt, rw e (omega arith)); keeps = tt; rests = λ _. tt }
