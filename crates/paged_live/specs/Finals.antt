-- What a report shows of a ring, and rings that are taken out one after another.
use Rattle.std.specs.Prelude.{◌≡◌, ℕ, [], ◌∷◌, map, Option, Some, None}
use Rattle.argo_base.specs.declared.ring_key.RingKey.{RingKey}
use Rattle.argo_model.specs.declared.closing.FinalRing.{FinalRing}
use Rattle.argo_model.specs.Rules.RingBytes.{slots}
use Rattle.argo_model.specs.Runs.Final.{notice_line_of}
use Rattle.guest_pages.specs.Rows.{row_bytes}
use Rattle.ring_core.specs.Held.{Held}
use Rattle.ring_table.specs.Rows.{Held as Row, held}
use Rattle.paged_live.specs.Parts.{Rows}

-- a ring under a key, with its slots
abbrev pub shown_of : RingKey → Held → FinalRing
shown_of key h =
    record {
      key = key;
      len = h.len;
      tx = h.tx;
      clean = h.clean;
      untaken = h.untaken;
      notices = map notice_line_of h.notices;
      slots = slots h.len (row_bytes h.row);
    }

abbrev pub final_of : RingKey × Row Held → FinalRing
final_of e = shown_of e.0 e.1.value

-- the first of the rings, and those that are left
pub record IsFirst (old new : Rows) (e : RingKey × Held) : Type 0 where
  pub serial : ℕ
  pub is : old ≡ (e.0, held serial e.1) ∷ new

abbrev pub TookFirst : Rows → Rows → Option (RingKey × Held) → Type 0
TookFirst old new None = old ≡ []
TookFirst old new (Some e) = IsFirst old new e
