-- Laws of the test whether two numbers are the same.
use Rattle.std.proofs.Common.{◌≡◌, ◌≢◌, ℕ, Bool, true, false, ◌==◌, refl, sym, ◌∙◌, arith}
use Rattle.std.proofs.lemmas.Bool.Decides.{nat_tests}

pub eq_same : (a b : ℕ) → (a == b) ≡ true → a ≡ b
eq_same a b h = grind (arith, nat_tests)

pub eq_apart : (a b : ℕ) → (a == b) ≡ false → a ≢ b
eq_apart a b h = grind (arith, nat_tests)

pub eq_self : (a : ℕ) → (a == a) ≡ true
eq_self a = grind (arith, nat_tests)

pub eq_turned : (a b : ℕ) → (a == b) ≡ (b == a)
eq_turned a b = by (a == b) (b == a) refl refl where
  both_ways : (a b : ℕ) → (a == b) ≡ true → (b == a) ≡ true
  both_ways a b h = grind (arith, nat_tests)

  by : (t u : Bool) → (a == b) ≡ t → (b == a) ≡ u → t ≡ u
  by true true e f = refl
  by false false e f = refl
  by true false e f = sym (both_ways a b e) ∙ f
  by false true e f = sym e ∙ both_ways b a f
