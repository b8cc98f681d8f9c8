-- The ranks that a caller holds, in the order in which it took them.
use Rattle.std.specs.Prelude.{◌≡◌, ℕ, ◌+◌, ◌-◌, ◌<◌, ◌≤◌, List, [], ◌∷◌, length, take, All, Some, slice_get, ⊤}

-- a lock may be taken only where its rank is above every rank that is held
abbrev pub IsAboveAll : ℕ → List ℕ → Type 0
IsAboveAll rank held = All (λ r. r < rank) held

-- it is the rank that was taken last
abbrev pub IsLast : ℕ → List ℕ → Type 0
IsLast rank held = slice_get held (length held - 1) ≡ Some rank

-- the ranks but for the one taken last
abbrev pub without_last : List ℕ → List ℕ
without_last held = take (length held - 1) held

-- the first is at least this low, and each other is above the one before it
abbrev pub RiseFrom : ℕ → List ℕ → Type 0
RiseFrom low [] = ⊤
RiseFrom low (r ∷ rs) = (low ≤ r) × RiseFrom (r + 1) rs
