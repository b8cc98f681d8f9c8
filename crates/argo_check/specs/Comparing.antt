-- What a comparer has taken.
use Rattle.std.specs.Prelude.{◌≡◌, ℕ, ◌+◌, ◌<◌, List, [], ◌∷◌, ◌++◌, length, take, count_by, Option, Some, None}
use Rattle.argo_check.specs.Differences.{is_line_feed}

-- the first bytes of a report, and the byte behind them that differs from it, if there is one
abbrev pub taken_of : List ℕ → ℕ → Option ℕ → List ℕ
taken_of report same None = take same report
taken_of report same (Some byte) = take same report ++ byte ∷ []

-- what a comparer tells: the length of its report, the report, and what was taken. So whoever hands it out knows that it compared with
-- the same report all the time
abbrev pub told_of : List ℕ → ℕ → Option ℕ → List ℕ
told_of report same other = length report ∷ (report ++ taken_of report same other)

-- the whole report was taken, and no other byte
abbrev pub IsWhole : List ℕ → ℕ → Option ℕ → Type 0
IsWhole report same other = (other ≡ None) × (same ≡ length report)

-- another byte was taken, or a part of the report alone; and this is the number of the line of that place
pub record IsOffIn (line : ℕ) (report : List ℕ) (same : ℕ) (other : Option ℕ) : Type 0 where
  pub part : other ≡ None → same < length report
  pub line_is : line ≡ count_by is_line_feed (take same report) + 1
