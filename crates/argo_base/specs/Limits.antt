-- The numbers of the rules.
use Rattle.std.specs.Prelude.{ℕ}

-- the bytes of a page
abbrev pub page_bytes : ℕ
page_bytes = 4096

-- the bytes of a ring's header, which stand before its slots
abbrev pub header_bytes : ℕ
header_bytes = 64

-- a slot, and the header of a message
abbrev pub slot_bytes : ℕ
slot_bytes = 16

-- the fewest and the most slot bytes of a ring
abbrev pub least_ring : ℕ
least_ring = 48

abbrev pub greatest_ring : ℕ
greatest_ring = 0x1000000

-- the longest body: it fits into the greatest ring while that is empty, and a longer one never does
abbrev pub longest_body : ℕ
longest_body = 0xFFFFE0

-- a ring has no more notices
abbrev pub most_notices : ℕ
most_notices = 32
