-- Where a key stands in rows by rising key.
use Rattle.std.specs.Prelude.{ℕ, suc, ◌+◌, Bool, true, ◌&&◌, nat_le, List, [], ◌∷◌, Result, Ok, Err}
use Rattle.std.specs.declared.cmp.Ordering.{Ordering}
use Rattle.std.specs.Ordering.{match_ordering}

-- a place in the rows behind the first one, as a place in all
abbrev pub behind_first : Result ℕ ℕ → Result ℕ ℕ
behind_first (Ok i) = Ok (suc i)
behind_first (Err i) = Err (suc i)

-- the place of the row with the key, or else the place of the first row past the key
abbrev pub place_of : {K X : Type 0} → (K → K → Ordering) → List (K × X) → K → Result ℕ ℕ
place_of cmp [] k = Err 0
place_of cmp (e ∷ es) k = match_ordering (cmp k e.0) (Err 0) (Ok 0) (behind_first (place_of cmp es k))

-- the keys rise, from a number on
abbrev pub rises_from : {X : Type 0} → ℕ → List (ℕ × X) → Bool
rises_from low [] = true
rises_from low (e ∷ es) = nat_le low e.0 && rises_from (e.0 + 1) es
