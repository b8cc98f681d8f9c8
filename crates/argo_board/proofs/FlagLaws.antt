-- Flags that are set one after another.
use Rattle.std.proofs.Common.{◌≡◌, ℕ, zero, suc, ◌+◌, ◌<◌, List, [], ◌∷◌, Bool, true, false, ◌||◌, length, take, slice_index_or, slice_set, nat_eq, arith, refl, sym, inl, inr, ◌⊎◌}
use Rattle.std.proofs.lemmas.List.{get_or-set_same, get_or-set_other}
use Rattle.std.proofs.lemmas.Bool.{cases_eq, eq-eqb, ne_eqb}
use Rattle.argo_board.specs.Journal.{is_among}

pub or-false : (b : Bool) → (b || false) ≡ b
or-false true = refl
or-false false = refl

pub or-true : (b : Bool) → (b || true) ≡ true
or-true true = refl
or-true false = refl

pub or-assoc : (a b c : Bool) → (a || (b || c)) ≡ ((a || b) || c)
or-assoc true b c = refl
or-assoc false b c = refl

-- one more domain of a list
pub among-more : (dom k d : ℕ) (doms : List ℕ) → k < length doms → is_among dom (take (suc k) doms) ≡ (is_among dom (take k doms) || nat_eq (slice_index_or doms k d) dom)
among-more dom k d [] at = absurd (omega (arith, at))
among-more dom zero d (x ∷ xs) at = or-false (nat_eq x dom)
among-more dom (suc k) d (x ∷ xs) at =
    rw (among-more dom k d xs (omega (arith, at))) (or-assoc (nat_eq x dom) (is_among dom (take k xs)) (nat_eq (slice_index_or xs k d) dom))

-- one more flag
set-one-by : (set : List Bool) (d dom : ℕ) → d < length set → ((d ≡ dom) ⊎ (d ≡ dom → ⊥)) → slice_index_or (slice_set set d true) dom false ≡ (slice_index_or set dom false || nat_eq d dom)
set-one-by set d dom at (inl same) =
    rw (← same, eq-eqb d d refl, get_or-set_same set d true false at) (sym (or-true (slice_index_or set d false)))
set-one-by set d dom at (inr other) =
    rw (ne_eqb d dom other, get_or-set_other set d dom true false (λ e. other (sym e))) (sym (or-false (slice_index_or set dom false)))

-- the flags of the first k domains are set over those before, and that of the next one too
pub raise-more : (set before : List Bool) (doms : List ℕ) (k d dom : ℕ) → k < length doms → d ≡ slice_index_or doms k d → d < length set
    → slice_index_or set dom false ≡ (slice_index_or before dom false || is_among dom (take k doms))
    → slice_index_or (slice_set set d true) dom false ≡ (slice_index_or before dom false || is_among dom (take (k + 1) doms))
raise-more set before doms k d dom more is at so_far =
    let next : k + 1 ≡ suc k = omega arith in
    rw (set-one-by set d dom at (cases_eq d dom), so_far, next, among-more dom k d doms more, ← is)
    (sym (or-assoc (slice_index_or before dom false) (is_among dom (take k doms)) (nat_eq d dom)))
