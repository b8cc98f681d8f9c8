-- Numbers at the start of a text.
use Rattle.std.specs.Prelude.{◌≡◌, ℕ, ◌^◌, ◌<◌, List, [], ◌∷◌, ◌++◌}
use Rattle.std.specs.Char.{digit_value}
use Rattle.std.specs.Fmt.{decimal}

-- the next byte, if there is one, is no digit
abbrev pub NoDigitNext : List ℕ → Type 0
NoDigitNext [] = Unit {0}
NoDigitNext (b ∷ bs) = ¬ (digit_value b < 10)

-- the text begins with this number, whose digits end there, and goes on so
pub record IsNumberThen (text : List ℕ) (n : ℕ) (rest : List ℕ) : Type 0 where
  pub text_is : text ≡ decimal n ++ rest
  pub fits : n < 2 ^ 64
  pub stops : NoDigitNext rest

abbrev pub HasNoNumber : List ℕ → Type 0
HasNoNumber text = (n : ℕ) (rest : List ℕ) → ¬ IsNumberThen text n rest
