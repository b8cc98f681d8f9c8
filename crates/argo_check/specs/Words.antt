-- The words of the command line.
use Rattle.std.specs.Prelude.{ℕ, ◌+◌, ◌-◌, ◌*◌, ◌^◌, Bool, ◌&&◌, nat_le, nat_lt, if◌then◌else◌, List, [], ◌∷◌, length, fold, codes, Option, Some, None}
use Rattle.std.specs.List.{list_all}
use Rattle.std.specs.Option.{option_and_then, option_map}
use Rattle.std.specs.Str.{bytes_eq}
use Rattle.argo_check.specs.declared.words.Place.{Place}
use Rattle.argo_check.specs.declared.words.Form.{Form}
use Rattle.argo_check.specs.declared.words.Form.TheVariants.{Plain, Why}

abbrev pub is_digit : ℕ → Bool
is_digit b = nat_le 48 b && nat_le b 57

-- the number that decimal digits spell
abbrev pub decimal_value : List ℕ → ℕ
decimal_value digits = fold (λ n b. 10 * n + (b - 48)) 0 digits

-- one to twenty decimal digits, leading zeros too, of a number below 2^64
abbrev pub is_number : List ℕ → Bool
is_number w = nat_le 1 (length w) && nat_le (length w) 20 && list_all is_digit w && nat_lt (decimal_value w) (2 ^ 64)

-- the number that a word spells, where it spells one
abbrev pub number_of : List ℕ → Option ℕ
number_of w = if is_number w then Some (decimal_value w) else None

-- the line that two words name
abbrev pub place_of : List ℕ → List ℕ → Option Place
place_of vcpu line = option_and_then (λ v. option_map (λ k. record { vcpu = v; line = k }) (number_of line)) (number_of vcpu)

-- the form of three words
abbrev pub form_with : List ℕ → List ℕ → List ℕ → Option Form
form_with name vcpu line = if bytes_eq name (codes "why") then option_map Why (place_of vcpu line) else None

-- the form of no words, and of the words `why V K`; other words have none
abbrev pub form_of : List (List ℕ) → Option Form
form_of [] = Some Plain
form_of (name ∷ vcpu ∷ line ∷ []) = form_with name vcpu line
form_of _ = None
