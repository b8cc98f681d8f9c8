-- Pages of a domain as its flat memory.
use Rattle.std.specs.Prelude.{◌≡◌, ℕ, zero, suc, ◌<◌, ◌==◌, if◌then◌else◌, List, [], ◌∷◌, ◌++◌, length}
use Rattle.argo_base.specs.Limits.{page_bytes}

-- the first k pages, one after another
abbrev pub flat : (ℕ → List ℕ) → ℕ → List ℕ
flat page zero = []
flat page (suc k) = flat page k ++ page k

-- each of them has the bytes of a page
abbrev pub ArePages : (ℕ → List ℕ) → ℕ → Type 0
ArePages page k = (n : ℕ) → n < k → length (page n) ≡ page_bytes

-- the pages with other bytes in one of them
abbrev pub with_page : (ℕ → List ℕ) → ℕ → List ℕ → ℕ → List ℕ
with_page page number bytes n = if n == number then bytes else page n

-- the pages with those of a row, each under its number
abbrev pub with_pages : (ℕ → List ℕ) → List (ℕ × List ℕ) → ℕ → List ℕ
with_pages page [] = page
with_pages page (p ∷ ps) = with_pages (with_page page p.0 p.1) ps
