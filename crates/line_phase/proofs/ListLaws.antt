-- Laws of what is left of a list.
use Rattle.std.proofs.Common.{◌≡◌, ℕ, zero, suc, ◌+◌, ◌<◌, ◌≤◌, List, [], ◌∷◌, length, drop, Some, slice_get, refl, ap, ◌∙◌, arith, add-one}

-- from the place of a value on, a list is that value and then the rest
pub drop-slice_get : {A : Type 0} (xs : List A) (i : ℕ) (x : A) → slice_get xs i ≡ Some x → drop i xs ≡ x ∷ drop (i + 1) xs
drop-slice_get [] i x e = cc
drop-slice_get (y ∷ ys) zero x e = let same : y ≡ x = cc in ap (λ z. z ∷ ys) same
drop-slice_get (y ∷ ys) (suc i) x e = drop-slice_get ys i x e ∙ rw (add-one, add-one) refl

-- before the end of a list there is a value
pub some_here : {A : Type 0} (xs : List A) (i : ℕ) → i < length xs → (x : A) × (drop i xs ≡ x ∷ drop (i + 1) xs)
some_here [] i within = absurd (omega arith)
some_here (y ∷ ys) zero within = (y, refl)
some_here (y ∷ ys) (suc i) within = let h = some_here ys i (omega arith) in (h.0, h.1 ∙ rw (add-one, add-one) refl)

-- and past it there is none
pub none_left : {A : Type 0} (xs : List A) (i : ℕ) → length xs ≤ i → drop i xs ≡ []
none_left [] zero past = refl
none_left [] (suc i) past = refl
none_left (y ∷ ys) zero past = absurd (omega arith)
none_left (y ∷ ys) (suc i) past = none_left ys i (omega arith)
