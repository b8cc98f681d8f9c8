-- The pages of a row, each with its number, one after another.
use Rattle.std.specs.Prelude.{ℕ, List, [], map, flat_map, slice_index_or, unwrap_or}
use Rattle.guest_pages.specs.declared.lazy_page.Lent.{Lent}

-- a place of the row as it is seen: the number of its page and the page's bytes
abbrev pub numbered : Lent → ℕ × List ℕ
numbered e = (e.number, unwrap_or e.page [])

-- the numbers of the pages, in their order
abbrev pub numbers_of : List (ℕ × List ℕ) → List ℕ
numbers_of row = map (λ p. p.0) row

-- the bytes of the pages, one page after another
abbrev pub row_bytes : List (ℕ × List ℕ) → List ℕ
row_bytes row = flat_map (λ p. p.1) row

-- the page at a place of the row
abbrev pub page_in : List (ℕ × List ℕ) → ℕ → ℕ × List ℕ
page_in row place = slice_index_or row place (0, [])
