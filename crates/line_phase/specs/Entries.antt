-- The entries of a notify.
use Rattle.std.specs.Prelude.{ℕ, ◌+◌, ◌*◌, ◌<◌, List, map}
use Rattle.std.specs.List.{range_with_len}
use Rattle.line_phase.specs.declared.reads.Entry.{Entry}

-- the addresses of so many entries from a place on, behind the 8 bytes at an address
abbrev pub places_from : ℕ → ℕ → ℕ → List ℕ
places_from base place count = map (λ i. base + 8 + 20 * i) (range_with_len place count)

-- the address of an entry
abbrev pub entry_at : Entry → ℕ
entry_at e = e.base + 8 + 20 * e.place

-- and those of the entries that follow it
abbrev pub places_after : Entry → List ℕ
places_after e = places_from e.base (e.place + 1) e.later

-- there are at most 256 entries
abbrev pub IsEntry : Entry → Type 0
IsEntry e = e.place + e.later < 256

-- how many actions follow the sweeps at most: two for the head, and five for each entry
abbrev pub most_of_notify : ℕ
most_of_notify = 1282
