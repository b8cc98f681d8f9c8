-- Words that are numbers or bytes.
use Rattle.std.specs.Prelude.{ℕ, ◌+◌, ◌*◌, ◌%◌, ◌^◌, Bool, ◌&&◌, ◌==◌, nat_eq, nat_lt, nat_le, if◌then◌else◌, List, [], ◌∷◌, length, drop, Option, Some, None, codes}
use Rattle.std.specs.Char.{digit_value, is_digit}
use Rattle.std.specs.List.{list_all, starts_with}
use Rattle.std.specs.Str.Parse.{digits_value}

-- digits of either case
abbrev pub is_hex_digit : ℕ → Bool
is_hex_digit c = is_digit c 16

-- the value of digits, if they are digits of the base and it is below 2^64
abbrev pub value_of : ℕ → List ℕ → Option ℕ
value_of base ds = if list_all (λ c. is_digit c base) ds && nat_lt (digits_value base ds) (2 ^ 64) then Some (digits_value base ds) else None

-- decimal digits, of which the first is 0 only where it is alone
abbrev pub decimal_of : List ℕ → Option ℕ
decimal_of [] = None
decimal_of (c ∷ cs) = if (c == 48) && nat_lt 0 (length cs) then None else value_of 10 (c ∷ cs)

-- 1 to 16 hexadecimal digits
abbrev pub hexadecimal_of : List ℕ → Option ℕ
hexadecimal_of ds = if nat_le 1 (length ds) && nat_le (length ds) 16 then value_of 16 ds else None

-- the number that a word stands for, if it is one: behind `0x` hexadecimal, else decimal
abbrev pub number_of : List ℕ → Option ℕ
number_of w = if starts_with nat_eq w (codes "0x") then hexadecimal_of (drop 2 w) else decimal_of w

-- an even number of hexadecimal digits, not none
abbrev pub is_hex : List ℕ → Bool
is_hex w = nat_lt 0 (length w) && (length w % 2 == 0) && list_all is_hex_digit w

-- a byte for each two digits
abbrev pub bytes_of : List ℕ → List ℕ
bytes_of [] = []
bytes_of (a ∷ []) = []
bytes_of (a ∷ b ∷ cs) = (16 * digit_value a + digit_value b) ∷ bytes_of cs

-- the bytes that a word stands for, if it is a hex word
abbrev pub hex_of : List ℕ → Option (List ℕ)
hex_of w = if is_hex w then Some (bytes_of w) else None
