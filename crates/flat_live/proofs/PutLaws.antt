-- Laws of puts into the pages of rings.
use Rattle.std.proofs.lemmas.Bool.Decides.{nat_tests}
use Rattle.std.proofs.Common.{◌≡◌, ◌≢◌, ℕ, zero, suc, ◌+◌, ◌<◌, ◌≤◌, Bool, true, false, cond, eqb, List, length, Some, None, refl, ap, ◌∙◌, arith, find}
use Rattle.std.specs.List.{range_with_len}
use Rattle.argo_base.specs.declared.message.Message.{Message}
use Rattle.argo_model.specs.Rules.Puts.{place_after_first, taken_by}

same_number : (a b : ℕ) → a ≡ b → eqb a b ≡ true
same_number a b same = grind (arith, nat_tests)

other_number : (a b : ℕ) → a ≢ b → eqb a b ≡ false
other_number a b differ = grind (arith, nat_tests)

find_first : (p : ℕ → Bool) (from n i : ℕ) → i < n → ((j : ℕ) → j < i → p (from + j) ≡ false) → p (from + i) ≡ true → find p (range_with_len from n) ≡ Some (from + i)
find_first p from zero i below before here = absurd (omega arith)
find_first p from (suc n) zero below before here =
    let e : p from ≡ true = ap p (omega arith) ∙ here in
    ap (λ b. cond b (Some from) (find p (range_with_len (from + 1) n))) e ∙ ap Some (omega arith)
find_first p from (suc n) (suc i) below before here =
    let e : p from ≡ false = ap p (omega arith) ∙ before 0 (omega arith) in
    ap (λ b. cond b (Some from) (find p (range_with_len (from + 1) n))) e
    ∙ find_first p (from + 1) n i (omega arith) (λ j low. ap p (omega arith) ∙ before (suc j) (omega arith)) (ap p (omega arith) ∙ here)
    ∙ ap Some (omega arith)

find_none : (p : ℕ → Bool) (from n : ℕ) → ((j : ℕ) → j < n → p (from + j) ≡ false) → find p (range_with_len from n) ≡ None
find_none p from zero before = refl
find_none p from (suc n) before =
    let e : p from ≡ false = ap p (omega arith) ∙ before 0 (omega arith) in
    ap (λ b. cond b (Some from) (find p (range_with_len (from + 1) n))) e
    ∙ find_none p (from + 1) n (λ j low. ap p (omega arith) ∙ before (suc j) (omega arith))

-- the first count of messages whose place is the value is how many are taken
pub taken_by_first : (len rx : ℕ) (untaken : List Message) (value k : ℕ) → k ≤ length untaken
    → ((j : ℕ) → j < k → place_after_first len rx untaken j ≡ value → ⊥) → place_after_first len rx untaken k ≡ value
    → taken_by len rx untaken value ≡ Some k
taken_by_first len rx untaken value k few before here =
    find_first (λ k. eqb (place_after_first len rx untaken k) value) 0 (length untaken + 1) k (omega arith)
    (λ j low. other_number _ _ (λ e. before j low (ap (place_after_first len rx untaken) (omega arith) ∙ e)))
    (same_number _ _ (ap (place_after_first len rx untaken) (omega arith) ∙ here))
    ∙ ap Some (omega arith)

-- where there is none, none are
pub taken_by_none : (len rx : ℕ) (untaken : List Message) (value : ℕ)
    → ((j : ℕ) → j < length untaken + 1 → place_after_first len rx untaken j ≡ value → ⊥) → taken_by len rx untaken value ≡ None
taken_by_none len rx untaken value before =
    find_none (λ k. eqb (place_after_first len rx untaken k) value) 0 (length untaken + 1)
    (λ j low. other_number _ _ (λ e. before j low (ap (place_after_first len rx untaken) (omega arith) ∙ e)))
