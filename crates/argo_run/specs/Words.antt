-- The words of the command line.
use Rattle.std.specs.Prelude.{ℕ, ◌+◌, ◌-◌, ◌*◌, ◌^◌, Bool, ◌&&◌, nat_le, nat_lt, if◌then◌else◌, List, [], ◌∷◌, length, fold, codes, Option, Some, None}
use Rattle.std.specs.List.{list_all}
use Rattle.std.specs.Option.{option_and_then}
use Rattle.std.specs.Str.{bytes_eq}
use Rattle.argo_run.specs.declared.words.Form.{Form}
use Rattle.argo_run.specs.declared.words.Form.TheVariants.{Run, Gen}
use Rattle.argo_run.specs.declared.words.Way.TheVariants.{Serial, Threads}

abbrev pub is_digit : ℕ → Bool
is_digit b = nat_le 48 b && nat_le b 57

-- the number that decimal digits spell
abbrev pub decimal_value : List ℕ → ℕ
decimal_value digits = fold (λ n b. 10 * n + (b - 48)) 0 digits

-- one to twenty decimal digits, leading zeros too, of a number below 2^64
abbrev pub is_number : List ℕ → Bool
is_number w = nat_le 1 (length w) && nat_le (length w) 20 && list_all is_digit w && nat_lt (decimal_value w) (2 ^ 64)

-- the number that a word spells, where it spells one
abbrev pub number_of : List ℕ → Option ℕ
number_of w = if is_number w then Some (decimal_value w) else None

-- the form with this name and this number
abbrev pub form_with : List ℕ → ℕ → Option Form
form_with name n =
    if bytes_eq name (codes "serial") then Some (Run (Serial n)) else if bytes_eq name (codes "gen") then Some (Gen n) else None

-- the form of one word
abbrev pub form_alone : List ℕ → Option Form
form_alone name = if bytes_eq name (codes "threads") then Some (Run Threads) else None

-- the form of the words `threads`, `serial N` and `gen N`; other words have none
abbrev pub form_of : List (List ℕ) → Option Form
form_of (name ∷ []) = form_alone name
form_of (name ∷ number ∷ []) = option_and_then (form_with name) (number_of number)
form_of _ = None
