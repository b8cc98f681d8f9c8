-- A write over a part of a list.
use Rattle.std.specs.Prelude.{ℕ, ◌+◌, List, ◌++◌, length, take, drop}

-- the list with these values from the place on
abbrev pub splice : {A : Type 0} → List A → ℕ → List A → List A
splice xs at ys = take at xs ++ (ys ++ drop (at + length ys) xs)
