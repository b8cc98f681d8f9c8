-- How many of a thing there may be.
use Rattle.std.specs.Prelude.{ℕ}

-- the rings of a domain that stand at one time, which is also how many of them one notify sweeps
abbrev pub most_rings : ℕ
most_rings = 128

-- the entries of a notify
abbrev pub most_entries : ℕ
most_entries = 256
