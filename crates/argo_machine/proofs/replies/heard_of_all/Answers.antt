use Rattle.std.proofs.Common.{◌++◌, ◌∷◌, [], map, sym, ap, ◌∙◌, arith}
use Rattle.std.specs.List.{range_with_len}
use Rattle.std.proofs.lemmas.List.FromFn.{map-range_with_len_more}
use Rattle.argo_machine.specs.Replies.{heard_among}
use Rattle.argo_machine.proofs.replies.heard_of_all.Goals as goal

pub loop-v-preserved : goal.loop-v-preserved
loop-v-preserved c =
    let f = heard_among c.args.done.now c.args.steps.now in
    let v = c.loop-v.v in
    c.in_ok-push.ensures.ok
    ∙ ap (λ hs. hs ++ c.in_ok-heard_of_one.field-0 ∷ []) c.loop-v.invariant
    ∙ ap (λ x. map f (range_with_len 0 v) ++ x ∷ []) c.in_ok-heard_of_one.ensures
    ∙ sym (map-range_with_len_more f 0 v v (omega arith))
