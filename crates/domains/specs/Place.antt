-- Where a domain's row stands, and where it would stand.
use Rattle.std.specs.Prelude.{ℕ, suc, ◌==◌, cond, List, [], ◌∷◌, Option, Some, None, option_map, Result, Ok, Err}
use Rattle.std.specs.Ordering.{match_ordering, nat_cmp}

-- the place of the first row of the id
abbrev pub place_of : {X : Type 0} → List (ℕ × X) → ℕ → Option ℕ
place_of [] d = None
place_of (e ∷ es) d = cond (e.0 == d) (Some 0) (option_map suc (place_of es d))

-- a place in the rows behind the first one, as a place in all
abbrev pub behind_first : Result ℕ ℕ → Result ℕ ℕ
behind_first (Ok i) = Ok (suc i)
behind_first (Err i) = Err (suc i)

-- the place of the row that a new value goes to, or else that of the first row past the id
abbrev pub slot_of : {X : Type 0} → List (ℕ × X) → ℕ → Result ℕ ℕ
slot_of [] d = Err 0
slot_of (e ∷ es) d = match_ordering (nat_cmp d e.0) (Err 0) (Ok 0) (behind_first (slot_of es d))
