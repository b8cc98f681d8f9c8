-- How far the generations and serials of a state have come.
use Rattle.std.specs.Prelude.{ℕ, ◌^◌, Bool, true, ◌&&◌, nat_le, nat_lt, IsTrue, Option, Some, None}
use Rattle.std.specs.List.{list_all}
use Rattle.argo_model.specs.Rules.State.{State, Domain, Live}

-- a domain's generation, and its next serial, are no greater than this
abbrev pub is_young_life : ℕ → Option Live → Bool
is_young_life n None = true
is_young_life n (Some live) = nat_le live.next_serial n

abbrev pub is_young_domain : ℕ → Domain → Bool
is_young_domain n x = nat_le x.generation n && is_young_life n x.life

-- every domain's are
abbrev pub IsYoung : ℕ → State → Type 0
IsYoung n s = IsTrue (list_all (λ e. is_young_domain n e.1) s)

-- what is shown of the domains: their generations fit their rows
abbrev pub is_shown : ℕ × Domain → Bool
is_shown e = nat_lt e.1.generation (2 ^ 32)

-- each generation is a 32-bit number
abbrev pub are_shown : State → Bool
are_shown s = list_all is_shown s
