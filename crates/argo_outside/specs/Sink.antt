-- The bytes that a sink has taken, where it tells them.
use Rattle.std.specs.Prelude.{◌≡◌, ℕ, ◌<◌, List, ◌++◌, length, take, Option, Some, None}

-- the bytes written, and then these
abbrev pub appended : Option (List ℕ) → List ℕ → Option (List ℕ)
appended None bs = None
appended (Some written) bs = Some (written ++ bs)

-- a part of the piece was appended, from its start and not to its end
pub record CutShort (old new : Option (List ℕ)) (piece : List ℕ) : Type 0 where
  pub count : ℕ
  pub not_all : count < length piece
  pub part : new ≡ appended old (take count piece)
