-- The arithmetic of a ring's slot bytes. A ring of `len` slot bytes has the places 0 to len - 1, and they go round.
use Rattle.std.specs.Prelude.{ℕ, ◌+◌, ◌-◌, ◌*◌, ◌/◌, ◌%◌, Bool, ◌&&◌, ◌==◌, nat_lt, nat_le, if◌then◌else◌}
use Rattle.argo_base.specs.Limits.{page_bytes, header_bytes, slot_bytes, least_ring, greatest_ring}

-- the least multiple of 16 that is not below n
abbrev pub up : ℕ → ℕ
up n = (n + 15) / slot_bytes * slot_bytes

-- the slot bytes that a message with a body of n bytes takes: its header, and the body with its padding
abbrev pub room : ℕ → ℕ
room n = slot_bytes + up n

-- a ring has `least_ring` to `greatest_ring` slot bytes, a multiple of 16
abbrev pub is_legal : ℕ → Bool
is_legal len = nat_le least_ring len && nat_le len greatest_ring && (len % slot_bytes == 0)

-- the pages that hold the header and the slots
abbrev pub page_count : ℕ → ℕ
page_count len = (len + header_bytes + 4095) / page_bytes

-- a place at which a message can begin: a multiple of 16 below the length
abbrev pub is_place : ℕ → ℕ → Bool
is_place len at = (at % slot_bytes == 0) && nat_lt at len

-- so many bytes after a place, round the ring's end
abbrev pub place_after : ℕ → ℕ → ℕ → ℕ
place_after len at n = (at + n) % len

-- the place that an rx word counts as: it is rounded up, and to 0 where that is not below the length
abbrev pub sanitised : ℕ → ℕ → ℕ
sanitised len rx = if nat_lt (up rx) len then up rx else 0

-- how many bytes there are from tx on, round the ring's end, up to a place: all of them where it is tx itself
abbrev pub span_to : ℕ → ℕ → ℕ → ℕ
span_to len tx at = if at == tx then len else (len + at - tx) % len

-- the free bytes of a ring with these two words
abbrev pub span : ℕ → ℕ → ℕ → ℕ
span len rx tx = span_to len tx (sanitised len rx)

-- a body of n bytes fits into so many free bytes; a message never takes the last of them
abbrev pub fits : ℕ → ℕ → Bool
fits free n = nat_lt (room n) free

-- a body of n bytes can never fit into a ring of that length
abbrev pub is_too_big : ℕ → ℕ → Bool
is_too_big len n = nat_le len (room n)
