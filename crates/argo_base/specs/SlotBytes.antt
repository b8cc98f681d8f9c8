-- The bytes of a ring, one list: those of its pages, one page after another. Two words come first, the slots follow the 64 bytes
-- of the header, and what stands behind them is spare.
use Rattle.std.specs.Prelude.{ℕ, ◌+◌, ◌-◌, List, ◌++◌, take, drop}
use Rattle.argo_base.specs.Layout.{u32_at, u32_bytes}
use Rattle.argo_base.specs.Limits.{header_bytes}
use Rattle.argo_base.specs.Splice.{splice}

-- the word by which the receiver says how far it has read
abbrev pub rx_word : List ℕ → ℕ
rx_word own = u32_at own 0

-- the word by which the hypervisor says how far it has written
abbrev pub tx_word : List ℕ → ℕ
tx_word own = u32_at own 4

-- the ring with another tx word
abbrev pub write_tx : ℕ → List ℕ → List ℕ
write_tx tx own = splice own 4 (u32_bytes tx)

-- so many slot bytes of a ring
abbrev pub slots : ℕ → List ℕ → List ℕ
slots len own = take len (drop header_bytes own)

-- the slot bytes from a place on, round the ring's end
abbrev pub bytes_from : ℕ → List ℕ → List ℕ
bytes_from at slots = drop at slots ++ take at slots

-- the ring with bytes written into its slots from a place on: up to the ring's end, and the rest from place 0 on
abbrev pub write_slots : ℕ → ℕ → List ℕ → List ℕ → List ℕ
write_slots len at bytes own = splice (splice own (header_bytes + at) (take (len - at) bytes)) header_bytes (drop (len - at) bytes)
