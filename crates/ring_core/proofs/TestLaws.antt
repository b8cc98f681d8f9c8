-- Laws of tests.
use Rattle.std.proofs.Common.{◌≡◌, ◌≢◌, ℕ, Bool, true, false, ◌&&◌, ◌==◌, eqb, IsTrue, refl, arith}
use Rattle.std.proofs.lemmas.Bool.{false≢true}
use Rattle.std.proofs.lemmas.Bool.Decides.{nat_tests}

pub same_number : (a b : ℕ) → a ≡ b → eqb a b ≡ true
same_number a b same = grind (arith, nat_tests)

pub other_number : (a b : ℕ) → a ≢ b → eqb a b ≡ false
other_number a b differ = grind (arith, nat_tests)

pub says_same : (a b : ℕ) → (a == b) ≡ true → a ≡ b
says_same a b test = grind (arith, nat_tests)

-- both of two tests hold
pub both : (x y : Bool) → IsTrue (x && y) → IsTrue x × IsTrue y
both true true h = (refl, refl)
both true false h = absurd (false≢true h)
both false y h = absurd (false≢true h)

pub and_also : (x y : Bool) → IsTrue x → IsTrue y → IsTrue (x && y)
and_also true true hx hy = refl
and_also true false hx hy = hy
and_also false y hx hy = hx
