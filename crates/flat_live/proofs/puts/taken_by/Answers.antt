use Rattle.std.proofs.Common.{◌≡◌, ℕ, Some, length, sym, ap, subst, ◌∙◌, ◌+◌, ◌<◌, ◌≤◌, arith, below_more}
use Rattle.argo_base.specs.Slots.{place_after}
use Rattle.argo_model.specs.Rules.Puts.{place_after_first}
use Rattle.flat_live.proofs.PutLaws.{taken_by_first, taken_by_none}
use Rattle.flat_live.proofs.puts.taken_by.Goals as goal

pub returns-then-place_after-value-clause-is : goal.returns-then-place_after-value-clause-is
returns-then-place_after-value-clause-is c =
    let few : c.loop-k.k ≤ length c.args.untaken.now = omega arith in
    sym (taken_by_first c.args.len c.args.rx c.args.untaken.now c.args.value c.loop-k.k few c.loop-k.invariant.before
    (ap (place_after c.args.len c.args.rx) (sym c.loop-k.invariant.total) ∙ sym c.place_after.ensures ∙ c.if-place_after-value.true))

pub returns-then-place_after-value-2-clause-is : goal.returns-then-place_after-value-2-clause-is
returns-then-place_after-value-2-clause-is c =
    let all : c.loop-k.k ≡ length c.args.untaken.now = omega arith in
    let few : c.loop-k.k ≤ length c.args.untaken.now = omega arith in
    ap Some (sym all) ∙ sym (taken_by_first c.args.len c.args.rx c.args.untaken.now c.args.value c.loop-k.k few c.loop-k.invariant.before
    (ap (place_after c.args.len c.args.rx) (sym c.loop-k.invariant.total) ∙ sym c.place_after-2.ensures ∙ c.if-place_after-value-2.true))

pub returns-clause-is : goal.returns-clause-is
returns-clause-is c =
    let all : c.loop-k.k ≡ length c.args.untaken.now = omega arith in
    sym (taken_by_none c.args.len c.args.rx c.args.untaken.now c.args.value
    (subst (λ (n : ℕ). (j : ℕ) → j < n + 1 → place_after_first c.args.len c.args.rx c.args.untaken.now j ≡ c.args.value → ⊥) all
    (below_more _ _ c.loop-k.invariant.before (λ e. c.if-place_after-value-2.false (c.place_after-2.ensures ∙ ap (place_after c.args.len c.args.rx) c.loop-k.invariant.total ∙ e)))))
