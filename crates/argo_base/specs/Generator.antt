-- The generator of numbers behind the picks of a serial run and the scripts that a number makes.
use Rattle.std.specs.Prelude.{ℕ, zero, suc, ◌+◌, ◌*◌, ◌^◌, ◌/◌, ◌%◌}

-- the number after this one
abbrev pub next_number : ℕ → ℕ
next_number x = (x * 6364136223846793005 + 1442695040888963407) % 2 ^ 64

-- the number after so many turns
abbrev pub number_after : ℕ → ℕ → ℕ
number_after x zero = x
number_after x (suc turns) = next_number (number_after x turns)

-- what a draw gives that leaves the generator at this number: its upper 31 bits
abbrev pub drawn : ℕ → ℕ
drawn x = x / 2 ^ 33
