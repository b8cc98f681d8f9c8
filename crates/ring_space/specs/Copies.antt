-- What a copy round a ring's end does, byte by byte. A ring's bytes are one list, and byte i of a copy from a place on stands i bytes
-- after it among the slots, round the ring's end.
use Rattle.std.specs.Prelude.{◌≡◌, ℕ, ◌+◌, ◌%◌, ◌<◌, List, length, slice_get}
use Rattle.argo_base.specs.Limits.{header_bytes}

-- where that byte stands among the ring's bytes
abbrev pub byte_place : ℕ → ℕ → ℕ → ℕ
byte_place len at i = header_bytes + (at + i) % len

-- each byte stands at its place, and every other byte of the ring is as it was
pub record IsWritten (len at : ℕ) (bytes old new : List ℕ) : Type 0 where
  pub written : (i : ℕ) → i < length bytes → slice_get new (byte_place len at i) ≡ slice_get bytes i
  pub kept : (j : ℕ) → ((i : ℕ) → i < length bytes → byte_place len at i ≡ j → ⊥) → slice_get new j ≡ slice_get old j

-- each byte is the one at its place
abbrev pub IsRead : ℕ → ℕ → List ℕ → List ℕ → Type 0
IsRead len at bytes own = (i : ℕ) → i < length bytes → slice_get bytes i ≡ slice_get own (byte_place len at i)
