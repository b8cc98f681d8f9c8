-- Lists of numbers, as of pages.
use Rattle.std.specs.Prelude.{ℕ, Bool, true, ◌&&◌, not, ◌==◌, List, [], ◌∷◌}
use Rattle.std.specs.List.{list_any}

-- a number stands in the list
abbrev pub has_number : List ℕ → ℕ → Bool
has_number xs n = list_any (λ x. x == n) xs

-- no number comes twice
abbrev pub all_differ : List ℕ → Bool
all_differ [] = true
all_differ (x ∷ xs) = not (has_number xs x) && all_differ xs
