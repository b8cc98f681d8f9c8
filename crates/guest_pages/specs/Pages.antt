-- A domain's private pages: for each number the page's bytes, or none where the page is lent.
use Rattle.std.specs.Prelude.{ℕ, Bool, ◌&&◌, List, [], ◌∷◌, Option, Some, None, is_some, option_map, unwrap_or, map, slice_set, slice_index_or}
use Rattle.std.specs.List.{list_all}
use Rattle.argo_base.specs.Splice.{splice}
use Rattle.argo_base.specs.Numbers.{all_differ}

-- the page of a number, where it is one of the domain's and not lent
abbrev pub page_at : List (Option (List ℕ)) → ℕ → Option (List ℕ)
page_at pages n = slice_index_or pages n None

-- the pages with bytes written into the page of a number from an offset on; where no page stands there, all stay
abbrev pub with_written : List (Option (List ℕ)) → ℕ → ℕ → List ℕ → List (Option (List ℕ))
with_written pages n off bytes = slice_set pages n (option_map (λ p. splice p off bytes) (page_at pages n))

-- a page stands under each of the numbers, and no number comes twice
abbrev pub can_lend : List (Option (List ℕ)) → List ℕ → Bool
can_lend pages numbers = list_all (λ n. is_some (page_at pages n)) numbers && all_differ numbers

-- the pages of these numbers, in this order
abbrev pub row_of : List (Option (List ℕ)) → List ℕ → List (ℕ × List ℕ)
row_of pages numbers = map (λ n. (n, unwrap_or (page_at pages n) [])) numbers

-- what is left where the pages of these numbers are lent
abbrev pub without : List (Option (List ℕ)) → List ℕ → List (Option (List ℕ))
without pages [] = pages
without pages (n ∷ ns) = without (slice_set pages n None) ns

-- the pages with those of a row, each under its number; a number that is none of the domain's changes nothing
abbrev pub with_row : List (Option (List ℕ)) → List (ℕ × List ℕ) → List (Option (List ℕ))
with_row pages [] = pages
with_row pages (p ∷ ps) = with_row (slice_set pages p.0 (Some p.1)) ps
