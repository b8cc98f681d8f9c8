-- Where two texts differ.
use Rattle.std.specs.Prelude.{◌≡◌, ◌≢◌, ℕ, ◌+◌, Bool, ◌==◌, List, take, slice_get, count_by}

abbrev pub is_line_feed : ℕ → Bool
is_line_feed b = b == 10

-- two texts are the same up to a place, and there one has another byte, or has ended; this is the number of the line of that place,
-- from 1, where each line counts with its line feed
pub record DifferFirstIn (one other : List ℕ) (line : ℕ) : Type 0 where
  pub place : ℕ
  pub same : take place one ≡ take place other
  pub differ : slice_get one place ≢ slice_get other place
  pub line_is : line ≡ count_by is_line_feed (take place one) + 1
