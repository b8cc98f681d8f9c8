-- Laws of tests.
use Rattle.std.proofs.Common.{ℕ, ◌≤◌, ◌&&◌, Bool, true, false, IsTrue, nat_le, refl, arith}
use Rattle.std.proofs.lemmas.Bool.{false≢true}
use Rattle.std.proofs.lemmas.Bool.Decides.{nat_tests}

-- both of two tests hold
pub both : (x y : Bool) → IsTrue (x && y) → IsTrue x × IsTrue y
both true true h = (refl, refl)
both true false h = absurd (false≢true h)
both false y h = absurd (false≢true h)

pub and_also : (x y : Bool) → IsTrue x → IsTrue y → IsTrue (x && y)
and_also true true hx hy = refl
and_also true false hx hy = hy
and_also false y hx hy = hx

pub le_from : (m n : ℕ) → IsTrue (nat_le m n) → m ≤ n
le_from m n h = grind (arith, nat_tests)
