-- Counts of calls and of faults. They never fall, and stand still at the end of a u64.
use Rattle.std.specs.Prelude.{ℕ, ◌+◌, ◌-◌, ◌^◌, ◌≤◌, min, Result, Ok, Err}

-- the count after one more
abbrev pub one_more : ℕ → ℕ
one_more n = min (n + 1) (2 ^ 64 - 1)

-- the count after a call that gave this
abbrev pub counted : {T E : Type 0} → Result T E → ℕ → ℕ
counted (Ok x) n = n
counted (Err e) n = one_more n

-- the count rose, or stands at its end
abbrev pub Rose : ℕ → ℕ → Type 0
Rose old new = one_more old ≤ new
