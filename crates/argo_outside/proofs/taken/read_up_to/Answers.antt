use Rattle.std.proofs.Common.{arith}
use Rattle.std.proofs.lemmas.Result.{err_from_is_err_and}
use Rattle.argo_outside.proofs.OutsideLemmas.{LostUpTo-after}
use Rattle.argo_outside.proofs.taken.read_up_to.Goals as goal

pub returns-in_err-read_some-clause-lost : goal.returns-in_err-read_some-clause-lost
returns-in_err-read_some-clause-lost g c =
    let p = err_from_is_err_and c.from_residual-in_err-read_some.result c.from_residual-in_err-read_some.ensures.1 in
    rw p.1 (LostUpTo-after _ _ _ _ _ _ (omega arith) c.loop-bytes.invariant.told c.in_err-read_some.ensures.lost)
