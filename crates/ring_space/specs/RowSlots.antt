-- The slots of a ring on the pages of a row.
use Rattle.std.specs.Prelude.{ℕ, List}
use Rattle.argo_base.specs.SlotBytes.{slots}
use Rattle.guest_pages.specs.Rows.{row_bytes}

-- so many slot bytes of it
abbrev pub row_slots : ℕ → List (ℕ × List ℕ) → List ℕ
row_slots len row = slots len (row_bytes row)
