use Rattle.std.proofs.Common.{◌≡◌, ℕ, Some, length, sym, ap, subst, ◌∙◌, ◌+◌, ◌<◌, ◌≤◌, arith, below_more}
use Rattle.argo_base.specs.Slots.{place_after}
use Rattle.argo_model.specs.Rules.Puts.{place_after_first}
use Rattle.ring_core.proofs.MoveLaws.{taken_by_first, taken_by_none, place_more}
use Rattle.ring_core.proofs.puts.taken_by.Goals as goal

pub returns-then-place-value-clause-is : goal.returns-then-place-value-clause-is
returns-then-place-value-clause-is c =
    let ms = c.args.untaken.now.items in
    let few : c.loop-k.k ≤ length ms = omega (arith, c.args.untaken.now.ok) in
    sym (taken_by_first c.args.len c.args.rx ms c.args.value c.loop-k.k few c.loop-k.invariant.before (sym c.loop-k.invariant.here ∙ c.if-place-value.true))

pub loop-k-preserved : goal.loop-k-preserved
loop-k-preserved c =
    let ms = c.args.untaken.now.items in
    let k = c.loop-k.k in
    let inside : k < length ms = omega (arith, c.args.untaken.now.ok) in
    let first = place_after_first c.args.len c.args.rx ms k in
    record {
      here =
          c.place_after-place-in-loop-k.ensures
          ∙ ap (λ x. place_after c.args.len x c.room_of.result) c.loop-k.invariant.here
          ∙ ap (place_after c.args.len first) c.room_of.ensures.room
          ∙ place_more c.args.len c.args.rx ms k c.index.result.now inside c.index.ensures;
      before = below_more _ _ c.loop-k.invariant.before (λ e. c.if-place-value.false (c.loop-k.invariant.here ∙ e));
    }

pub returns-then-place-value-2-clause-is : goal.returns-then-place-value-2-clause-is
returns-then-place-value-2-clause-is c =
    let ms = c.args.untaken.now.items in
    let all : c.len.result ≡ c.loop-k.k = omega (arith, c.args.untaken.now.ok) in
    let few : c.loop-k.k ≤ length ms = omega (arith, c.args.untaken.now.ok) in
    ap Some all
    ∙ sym (taken_by_first c.args.len c.args.rx ms c.args.value c.loop-k.k few c.loop-k.invariant.before (sym c.loop-k.invariant.here ∙ c.if-place-value-2.true))

pub returns-clause-is : goal.returns-clause-is
returns-clause-is c =
    let ms = c.args.untaken.now.items in
    let all : c.loop-k.k ≡ length ms = omega (arith, c.args.untaken.now.ok) in
    sym (taken_by_none c.args.len c.args.rx ms c.args.value
    (subst (λ (n : ℕ). (j : ℕ) → j < n + 1 → place_after_first c.args.len c.args.rx ms j ≡ c.args.value → ⊥) all
    (below_more _ _ c.loop-k.invariant.before (λ e. c.if-place-value-2.false (c.loop-k.invariant.here ∙ e)))))
