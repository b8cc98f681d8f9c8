-- The value of digits that are read one after the other.
use Rattle.std.proofs.Common.{◌≡◌, ℕ, zero, suc, ◌+◌, ◌*◌, ◌^◌, ◌<◌, ◌≤◌, Bool, true, false, ◌&&◌, cond, ltb, List, [], ◌∷◌, length, get_or, take, Option, Some, None, refl, sym, ap, ◌∙◌, inl, inr, arith}
use Rattle.std.specs.Char.{digit_value, is_digit}
use Rattle.std.specs.List.{list_all}
use Rattle.std.specs.Str.Parse.{digits_value, digits_value_after}
use Rattle.std.proofs.Math.Nat.{mul-le-mul_left}
use Rattle.std.proofs.lemmas.Bool.{cases_Bool, ltb-true, ltb-false, lt-ltb, le-ltb, and_right}
use Rattle.std.proofs.lemmas.Int.Digits.{digits_value_more}
use Rattle.std.proofs.lemmas.List.{take_all}
use Rattle.std.proofs.lemmas.List.Folds.{list_all_more, list_all_at}
use Rattle.script_text.specs.Numbers.{value_of}

widen : (n base : ℕ) → 0 < base → n ≤ n * base
widen n base h = let one : 1 ≤ base = omega arith in omega (arith, mul-le-mul_left n one)

grows : (base n : ℕ) (ds : List ℕ) → 0 < base → n ≤ digits_value_after base n ds
grows base n [] h = omega arith
grows base n (c ∷ cs) h = omega (arith, widen n base h, grows base (n * base + digit_value c) cs h)

grows_on : (base n k : ℕ) (ds : List ℕ) → 0 < base → digits_value_after base n (take k ds) ≤ digits_value_after base n ds
grows_on base n zero ds h = grows base n ds h
grows_on base n (suc k) [] h = omega arith
grows_on base n (suc k) (c ∷ cs) h = grows_on base (n * base + digit_value c) k cs h

-- what was read of the digits so far
pub record IsRead (base n i : ℕ) (ds : List ℕ) : Type 0 where
  pub digits : list_all (λ c. is_digit c base) (take i ds) ≡ true
  pub value : n ≡ digits_value base (take i ds)
  pub small : n < 2 ^ 64

abbrev pub next_value : ℕ → ℕ → ℕ → Option ℕ
next_value base n c = cond (is_digit c base && ltb (n * base + digit_value c) (2 ^ 64)) (Some (n * base + digit_value c)) None

guarded : {A : Type 0} (b c : Bool) (x y : A) → cond (b && c) (Some x) None ≡ Some y → (b ≡ true) × (c ≡ true) × (x ≡ y)
guarded true true x y e = (refl, refl, cc)
guarded true false x y e = absurd cc
guarded false c x y e = absurd cc

refused : {A : Type 0} (b c : Bool) (x : A) → cond (b && c) (Some x) None ≡ None → b ≡ true → c ≡ false
refused true true x e t = absurd cc
refused true false x e t = refl
refused false c x e t = absurd cc

pub reads_on : (base n i m : ℕ) (ds : List ℕ) → i < length ds → IsRead base n i ds → next_value base n (get_or ds i 0) ≡ Some m → IsRead base m (i + 1) ds
reads_on base n i m ds h r e =
    let g = guarded (is_digit (get_or ds i 0) base) _ _ m e in
    record {
      digits = list_all_more (λ c. is_digit c base) ds i 0 h ∙ rw (r.digits, g.0) refl;
      small = omega (arith, ltb-true _ _ g.1, g.2);
      value = sym g.2 ∙ ap (λ (k : ℕ). k * base + digit_value (get_or ds i 0)) r.value ∙ sym (digits_value_more base ds i h);
    }

pub is_refused : (base n i : ℕ) (ds : List ℕ) → 0 < base → i < length ds → IsRead base n i ds → next_value base n (get_or ds i 0) ≡ None → value_of base ds ≡ None
is_refused base n i ds some h r e =
    let c = get_or ds i 0 in
    elim (cases_Bool (is_digit c base)) [
      | inl t ↦
          let large = ltb-false _ _ (refused (is_digit c base) _ _ e t) in
          let here : n * base + digit_value c ≡ digits_value base (take (i + 1) ds) = ap (λ (k : ℕ). k * base + digit_value c) r.value ∙ sym (digits_value_more base ds i h) in
          rw (le-ltb (digits_value base ds) (2 ^ 64) (omega (arith, large, here, grows_on base 0 (i + 1) ds some))) (rw (and_right (list_all (λ x. is_digit x base) ds) false refl) refl)
      | inr f ↦ rw (list_all_at (λ x. is_digit x base) ds i 0 h f) refl
    ]

pub is_whole : (base n i : ℕ) (ds : List ℕ) → length ds ≤ i → IsRead base n i ds → Some n ≡ value_of base ds
is_whole base n i ds h r =
    let all : take i ds ≡ ds = take_all i ds h in
    let value : n ≡ digits_value base ds = r.value ∙ ap (digits_value base) all in
    let digits : list_all (λ c. is_digit c base) ds ≡ true = ap (list_all (λ c. is_digit c base)) (sym all) ∙ r.digits in
    rw (digits, lt-ltb (digits_value base ds) (2 ^ 64) (omega (arith, value, r.small)), value) refl
