use Rattle.std.proofs.Common.{sym, subst, ◌∙◌, ap, length-append, ◌≡◌, ◌+◌, length, ◌++◌, [], ◌∷◌}
use Rattle.ring_table.specs.Buckets.{AreEmpty}
use Rattle.ring_table.proofs.TableLaws.{push_empty}
use Rattle.ring_table.proofs.table.edits.empty_buckets.Goals as goal

pub loop-made-preserved : goal.loop-made-preserved
loop-made-preserved g c =
    let before = c.loop-made.buckets.items in
    let made = c.new.result in
    let items = c.in_ok-push.ensures.items in
    let n : length (before ++ made ∷ []) ≡ length before + 1 = length-append before (made ∷ []) in
    (ap length items ∙ n ∙ ap (λ k. k + 1) c.loop-made.invariant.0, subst AreEmpty (sym items) (push_empty before made c.loop-made.invariant.1 c.new.ensures.empty))
