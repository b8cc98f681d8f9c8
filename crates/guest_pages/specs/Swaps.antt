-- Pages change places between a domain's private memory and a row.
use Rattle.std.specs.Prelude.{ℕ, List, [], ◌∷◌, Option, map, slice_set, slice_index_or, None}
use Rattle.guest_pages.specs.declared.lazy_page.Lent.{Lent}

-- places for pages of these numbers, with no page in them
abbrev pub blanks : List ℕ → List Lent
blanks numbers = map (λ n. record { number = n; page = None }) numbers

-- each place of the row in turn changes what it holds for what stands under its number; a number past the end keeps it
abbrev pub swapped_in : List (Option (List ℕ)) → List Lent → List (Option (List ℕ)) × List Lent
swapped_in pages [] = (pages, [])
swapped_in pages (e ∷ es) =
    let rest = swapped_in (slice_set pages e.number e.page) es in
    (rest.0, record { number = e.number; page = slice_index_or pages e.number e.page } ∷ rest.1)

-- the same from the row's end to its start
abbrev pub swapped_back : List (Option (List ℕ)) → List Lent → List (Option (List ℕ)) × List Lent
swapped_back pages [] = (pages, [])
swapped_back pages (e ∷ es) =
    let rest = swapped_back pages es in
    (slice_set rest.0 e.number e.page, record { number = e.number; page = slice_index_or rest.0 e.number e.page } ∷ rest.1)
