-- The bytes that a source has left, where it tells them.
use Rattle.std.specs.Prelude.{◌≡◌, ℕ, ◌≤◌, List, [], ◌++◌, length, Option, Some, None, ⊤}

-- these bytes, and then those that are left
abbrev pub behind : List ℕ → Option (List ℕ) → Option (List ℕ)
behind bs None = None
behind bs (Some rest) = Some (bs ++ rest)

-- nothing is left, as far as the source tells
abbrev pub IsAtEnd : Option (List ℕ) → Type 0
IsAtEnd None = ⊤
IsAtEnd (Some rest) = rest ≡ []

-- so many bytes or fewer were read, and are lost
pub record LostUpTo (most : ℕ) (old new : Option (List ℕ)) : Type 0 where
  pub lost : List ℕ
  pub few : length lost ≤ most
  pub told : old ≡ behind lost new
