use Rattle.std.proofs.Common.{◌∷◌, [], ◌++◌, sym, ap, ◌∙◌, arith}
use Rattle.std.proofs.lemmas.List.{take_more_set, length-set}
use Rattle.std.proofs.lemmas.List.FromFn.{map-range_with_len_more}
use Rattle.argo_base.specs.Iovs.{Iov, iov_at, iovs_at}
use Rattle.line_phase.proofs.send.read_iovs.Goals as goal

pub loop-i-preserved : goal.loop-i-preserved
loop-i-preserved c =
    let list = c.args.list.now in
    let iovs = c.loop-i.iovs in
    let i = c.loop-i.i in
    let few = c.requires.few in
    let long = c.loop-i.invariant.0 in
    let below = c.loop-i-test.true in (
      length-set iovs i c.read_iov.result ∙ long,
      take_more_set iovs i c.read_iov.result (omega (arith, few, long, below))
          ∙ ap (λ xs. xs ++ c.read_iov.result ∷ []) c.loop-i.invariant.1
          ∙ ap (λ (x : Iov). iovs_at list i ++ x ∷ []) c.read_iov.ensures
          ∙ sym (map-range_with_len_more (iov_at list) 0 i i (omega arith)),
    )
