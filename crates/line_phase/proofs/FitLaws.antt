-- Laws of actions that are fit.
use Rattle.std.proofs.Common.{◌≡◌, ℕ, Bool, true, false, ◌&&◌, ◌==◌, IsTrue, List, length, eq-eqb}
use Rattle.std.proofs.lemmas.Bool.{false≢true}
use Rattle.argo_base.specs.Slots.{is_legal, page_count}

pub and_true : (a b : Bool) → IsTrue a → IsTrue b → IsTrue (a && b)
and_true true b ha hb = hb
and_true false b ha hb = absurd (false≢true ha)

-- a ring of a legal length with as many pages as that takes
pub fit_register : (len : ℕ) (pages : List ℕ) → IsTrue (is_legal len) → length pages ≡ page_count len → IsTrue (is_legal len && (length pages == page_count len))
fit_register len pages legal enough = and_true (is_legal len) (length pages == page_count len) legal (eq-eqb (length pages) (page_count len) enough)
