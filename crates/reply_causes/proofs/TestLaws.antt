-- Laws of tests, and of places in lists.
use Rattle.std.proofs.Common.{◌≡◌, ℕ, zero, suc, ◌+◌, ◌==◌, Bool, true, ◌&&◌, List, [], ◌∷◌, drop, slice_get, Some, sym, ap, ◌∙◌, arith}
use Rattle.std.proofs.Math.Seq.{drop-drop}
use Rattle.std.proofs.lemmas.Bool.Decides.{nat_tests}

pub same-eqb : (m n : ℕ) → m ≡ n → (m == n) ≡ true
same-eqb m n h = grind (arith, nat_tests)

pub both_hold : (a b : Bool) → a ≡ true → b ≡ true → (a && b) ≡ true
both_hold a b one other = ap (λ x. x && b) one ∙ other

-- the first of what is left after some is at their count, and the others are left after one more
pub get-drop : {A : Type 0} (n : ℕ) (xs ys : List A) (y : A) → drop n xs ≡ y ∷ ys → slice_get xs n ≡ Some y
get-drop zero [] ys y h = absurd (let no : ⊥ = cc in no)
get-drop zero (x ∷ xs) ys y h = let same : x ≡ y = cc in ap Some same
get-drop (suc n) [] ys y h = absurd (let no : ⊥ = cc in no)
get-drop (suc n) (x ∷ xs) ys y h = get-drop n xs ys y h

pub drop-next : {A : Type 0} (n : ℕ) (xs ys : List A) (y : A) → drop n xs ≡ y ∷ ys → ys ≡ drop (n + 1) xs
drop-next n xs ys y h = sym (ap (drop 1) h) ∙ drop-drop 1 n xs
