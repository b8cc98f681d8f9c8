-- Laws of proper moves: which value of the rx word takes how many messages.
use Rattle.std.proofs.Common.{◌≡◌, ℕ, zero, suc, ◌+◌, ◌<◌, ◌≤◌, Bool, true, false, cond, eqb, ◌==◌, if◌then◌else◌, List, length, take, get_or, sum_by, Some, None, refl, sym, ap, ◌∙◌, subst, arith, find}
use Rattle.std.specs.List.{range_with_len}
use Rattle.std.proofs.lemmas.List.Sums.{sum_by_more}
use Rattle.argo_base.specs.declared.message.Message.{Message}
use Rattle.argo_base.specs.Slots.{place_after}
use Rattle.argo_base.proofs.SlotLaws.{place_after-place_after}
use Rattle.argo_model.specs.Rules.Messages.{room_of}
use Rattle.argo_model.specs.Rules.Puts.{place_after_first, taken_by}
use Rattle.ring_core.proofs.TestLaws.{same_number, other_number, says_same}

find_first : (p : ℕ → Bool) (from n i : ℕ) → i < n → ((j : ℕ) → j < i → p (from + j) ≡ false) → p (from + i) ≡ true → find p (range_with_len from n) ≡ Some (from + i)
find_first p from zero i below before here = absurd (omega arith)
find_first p from (suc n) zero below before here =
    let e : p from ≡ true = ap p (omega arith) ∙ here in
    ap (λ b. cond b (Some from) (find p (range_with_len (from + 1) n))) e ∙ ap Some (omega arith)
find_first p from (suc n) (suc i) below before here =
    let e : p from ≡ false = ap p (omega arith) ∙ before 0 (omega arith) in
    ap (λ b. cond b (Some from) (find p (range_with_len (from + 1) n))) e
    ∙ find_first p (from + 1) n i (omega arith) (λ j low. ap p (omega arith) ∙ before (suc j) (omega arith)) (ap p (omega arith) ∙ here)
    ∙ ap Some (omega arith)

find_none : (p : ℕ → Bool) (from n : ℕ) → ((j : ℕ) → j < n → p (from + j) ≡ false) → find p (range_with_len from n) ≡ None
find_none p from zero before = refl
find_none p from (suc n) before =
    let e : p from ≡ false = ap p (omega arith) ∙ before 0 (omega arith) in
    ap (λ b. cond b (Some from) (find p (range_with_len (from + 1) n))) e
    ∙ find_none p (from + 1) n (λ j low. ap p (omega arith) ∙ before (suc j) (omega arith))

find_at : (test : ℕ → Bool) (from n k : ℕ) (b : Bool) → test from ≡ b
    → (find test (range_with_len (from + 1) n) ≡ Some k → (test k ≡ true) × (k < from + 1 + n))
    → (if b then Some from else find test (range_with_len (from + 1) n)) ≡ Some k → (test k ≡ true) × (k < from + suc n)
find_at test from n k true is rest found = let same : from ≡ k = cc in (subst (λ x. test x ≡ true) same is, omega arith)
find_at test from n k false is rest found = ((rest found).0, let r = (rest found).1 in omega arith)

-- what is found passes the test
find_in : (test : ℕ → Bool) (from n k : ℕ) → find test (range_with_len from n) ≡ Some k → (test k ≡ true) × (k < from + n)
find_in test from zero k found = cc
find_in test from (suc n) k found = find_at test from n k (test from) refl (find_in test (from + 1) n k) found

-- the first count of messages whose place is the value is how many are taken
pub taken_by_first : (len rx : ℕ) (untaken : List Message) (value k : ℕ) → k ≤ length untaken
    → ((j : ℕ) → j < k → place_after_first len rx untaken j ≡ value → ⊥) → place_after_first len rx untaken k ≡ value
    → taken_by len rx untaken value ≡ Some k
taken_by_first len rx untaken value k few before here =
    find_first (λ k. eqb (place_after_first len rx untaken k) value) 0 (length untaken + 1) k (omega arith)
    (λ j low. other_number _ _ (λ e. before j low (ap (place_after_first len rx untaken) (omega arith) ∙ e)))
    (same_number _ _ (ap (place_after_first len rx untaken) (omega arith) ∙ here))
    ∙ ap Some (omega arith)

-- where there is none, none are
pub taken_by_none : (len rx : ℕ) (untaken : List Message) (value : ℕ)
    → ((j : ℕ) → j < length untaken + 1 → place_after_first len rx untaken j ≡ value → ⊥) → taken_by len rx untaken value ≡ None
taken_by_none len rx untaken value before =
    find_none (λ k. eqb (place_after_first len rx untaken k) value) 0 (length untaken + 1)
    (λ j low. other_number _ _ (λ e. before j low (ap (place_after_first len rx untaken) (omega arith) ∙ e)))

-- and a value that takes k is the place after the first k
pub taken_by_says : (len rx : ℕ) (ms : List Message) (value k : ℕ) → taken_by len rx ms value ≡ Some k
    → (k ≤ length ms) × (place_after_first len rx ms k ≡ value)
taken_by_says len rx ms value k takes =
    let f = find_in (λ j. place_after_first len rx ms j == value) 0 (length ms + 1) k takes in
    (let g = f.1 in omega arith, says_same (place_after_first len rx ms k) value f.0)

-- the place behind one message more
pub place_more : (len rx : ℕ) (ms : List Message) (k : ℕ) (m : Message) → k < length ms → m ≡ get_or ms k m
    → place_after len (place_after_first len rx ms k) (room_of m) ≡ place_after_first len rx ms (k + 1)
place_more len rx ms k m inside is =
    place_after-place_after len rx (sum_by room_of (take k ms)) (room_of m)
    ∙ ap (λ x. place_after len rx (sum_by room_of (take k ms) + room_of x)) is
    ∙ ap (place_after len rx) (sym (sum_by_more room_of ms k m inside))
