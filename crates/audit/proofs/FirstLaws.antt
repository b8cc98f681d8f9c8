-- Laws of the first that is found.
use Rattle.std.proofs.Common.{◌≡◌, ℕ, zero, suc, ◌+◌, ◌<◌, ◌≤◌, Bool, true, false, cond, find, List, [], ◌∷◌, length, drop, get_or, drop-cons, Option, Some, None, refl, sym, ap, ◌∙◌, subst, arith, ⊎_elim}
use Rattle.std.specs.Option.{is_some, is_none, option_or}
use Rattle.std.proofs.lemmas.Bool.{false≢true, cases_lt}
use Rattle.audit.specs.First.{first_below, first_in}

first_none : {V : Type 0} (o p : Option V) → option_or o p ≡ None → o ≡ None
first_none None p none = refl
first_none (Some v) p none = none

second_none : {V : Type 0} (o p : Option V) → option_or o p ≡ None → p ≡ None
second_none None p none = none
second_none (Some v) p none = let e : Some v ≡ None = none in absurd (false≢true (ap is_none e))

module _ {V : Type 0} (f : ℕ → Option V) where
  -- what is found behind places where nothing is
  first_at : (n k : ℕ) (v : V) → first_below f k ≡ None → f k ≡ Some v → k < n → first_below f n ≡ Some v
  first_at zero k v none found below = absurd (omega (arith, below))
  first_at (suc n) k v none found below =
      ⊎_elim (λ (less : k < n). ap (λ o. option_or o (f n)) (first_at n k v none found less))
      (λ (more : n ≤ k).
      let same : k ≡ n = omega (arith, more, below) in
      let P : ℕ → Type 0 = λ m. option_or (first_below f m) (f m) ≡ Some v in
      subst P same (ap (λ o. option_or o (f k)) none ∙ found))
      (cases_lt k n)

  pub found_at : (n k : ℕ) (o : Option V) → first_below f k ≡ None → o ≡ f k → is_some o ≡ true → k < n → o ≡ first_below f n
  found_at n k None none is some below = absurd (false≢true some)
  found_at n k (Some v) none is some below = sym (first_at n k v none (sym is) below)

  -- nothing is at one place more
  pub not_at : (k : ℕ) (o : Option V) → first_below f k ≡ None → o ≡ f k → is_some o ≡ false → first_below f (k + 1) ≡ None
  not_at k (Some v) none is some = absurd (false≢true (sym some))
  not_at k None none is some =
      let e : suc k ≡ k + 1 = omega arith in
      let P : ℕ → Type 0 = λ m. first_below f m ≡ None in
      subst P e (ap (λ o. option_or o (f k)) none ∙ sym is)

  -- and at no place before
  pub none_at : (n k : ℕ) → first_below f n ≡ None → k < n → f k ≡ None
  none_at zero k none below = absurd (omega (arith, below))
  none_at (suc n) k none below =
      ⊎_elim (λ (less : k < n). none_at n k (first_none (first_below f n) (f n) none) less)
      (λ (more : n ≤ k).
      let same : n ≡ k = omega (arith, more, below) in
      ap f (sym same) ∙ second_none (first_below f n) (f n) none)
      (cases_lt k n)

  -- nothing is at any place
  pub nowhere : (n k : ℕ) → first_below f k ≡ None → n ≤ k → k ≤ n → None ≡ first_below f n
  nowhere n k none past below =
      let same : k ≡ n = omega (arith, past, below) in
      let P : ℕ → Type 0 = λ m. None ≡ first_below f m in
      subst P same (sym none)

module _ {A V : Type 0} (f : A → Option V) (x : A) (rest : List A) (all : Option V) where
  pub found_in : (o : Option V) → first_in f (x ∷ rest) ≡ all → o ≡ f x → is_some o ≡ true → o ≡ all
  found_in None now is some = absurd (false≢true some)
  found_in (Some v) now is some = ap (λ p. option_or p (first_in f rest)) is ∙ now

  pub not_in : (o : Option V) → first_in f (x ∷ rest) ≡ all → o ≡ f x → is_some o ≡ false → first_in f rest ≡ all
  not_in (Some v) now is some = absurd (false≢true (sym some))
  not_in None now is some = ap (λ p. option_or p (first_in f rest)) is ∙ now

-- the first of what is left of a list
pub left_at : {A : Type 0} (xs : List A) (i : ℕ) (x : A) → i < length xs → x ≡ get_or xs i x → drop i xs ≡ x ∷ drop (i + 1) xs
left_at xs i x below is =
    let e : suc i ≡ i + 1 = omega arith in
    drop-cons xs i x below ∙ ap (λ y. y ∷ drop (suc i) xs) (sym is) ∙ ap (λ n. x ∷ drop n xs) e

module _ {A : Type 0} (test : A → Bool) (xs : List A) (i : ℕ) (x : A) (all : Option A) where
  pub row_found : i < length xs → x ≡ get_or xs i x → find test (drop i xs) ≡ all → test x ≡ true → Some x ≡ all
  row_found below is now same =
      sym (ap (find test) (left_at xs i x below is) ∙ ap (λ b. cond b (Some x) (find test (drop (i + 1) xs))) same) ∙ now

  pub row_other : i < length xs → x ≡ get_or xs i x → find test (drop i xs) ≡ all → test x ≡ false → find test (drop (i + 1) xs) ≡ all
  row_other below is now other =
      sym (ap (find test) (left_at xs i x below is) ∙ ap (λ b. cond b (Some x) (find test (drop (i + 1) xs))) other) ∙ now

-- the same, by its place
pub left_from : {A : Type 0} (xs : List A) (i : ℕ) (d : A) → i < length xs → drop i xs ≡ get_or xs i d ∷ drop (i + 1) xs
left_from xs i d below =
    let e : suc i ≡ i + 1 = omega arith in
    drop-cons xs i d below ∙ ap (λ n. get_or xs i d ∷ drop n xs) e
