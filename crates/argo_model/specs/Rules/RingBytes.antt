-- The bytes of a ring, one list: those of its pages, one page after another. Each act on a ring is told on the ring with these
-- bytes, and laid back into its owner's memory.
use Rattle.std.specs.Prelude.{ℕ, ◌*◌, ◌==◌, Bool, List, [], ◌∷◌, take, drop, flat_map}
use Rattle.std.specs.Map.{set_value}
use Rattle.std.specs.BTreeMap.{is_at}
use Rattle.argo_base.specs.declared.ring_key.RingKey.{RingKey}
use Rattle.argo_base.specs.Match.{key_cmp}
use Rattle.argo_base.specs.Notices.{Notices}
pub use Rattle.argo_base.specs.SlotBytes.{rx_word, tx_word, write_tx, slots, write_slots}
use Rattle.argo_base.specs.Slots.{sanitised, span}
use Rattle.argo_base.specs.Splice.{splice}
use Rattle.argo_model.specs.Rules.State.{Ring, Live}

-- a ring with its own bytes
pub record PagedRing : Type 0 where
  pub ring : Ring
  pub own : List ℕ

-- the bytes of a ring's pages in its owner's memory
abbrev pub ring_bytes : List ℕ → List ℕ → List ℕ
ring_bytes memory pages = flat_map (λ page. take 4096 (drop (4096 * page) memory)) pages

-- the memory with a ring's bytes laid back into its pages
abbrev pub laid : List ℕ → List ℕ → List ℕ → List ℕ
laid [] own memory = memory
laid (page ∷ pages) own memory = laid pages (drop 4096 own) (splice memory (4096 * page) (take 4096 own))

-- a ring in its owner's memory
abbrev pub paged : List ℕ → Ring → PagedRing
paged memory r = record { ring = r; own = ring_bytes memory r.pages }

-- what the owner has with the ring laid back under its key, which stood there
abbrev pub set_paged : Live → RingKey → PagedRing → Live
set_paged live key p =
    record live { bytes = laid p.ring.pages p.own live.bytes; rings = set_value (is_at (key_cmp key)) live.rings p.ring }

-- a ring with these notices alone
abbrev pub with_notices : PagedRing → Notices → PagedRing
with_notices p notices = record p { ring = record p.ring { notices = notices } }

-- the slot bytes of a ring in its owner's memory
abbrev pub slots_of : List ℕ → Ring → List ℕ
slots_of memory r = slots r.len (ring_bytes memory r.pages)

-- the free bytes of a ring
abbrev pub free : PagedRing → ℕ
free p = span p.ring.len (rx_word p.own) p.ring.tx

-- the receiver has read all, as far as its rx word says
abbrev pub is_empty : PagedRing → Bool
is_empty p = sanitised p.ring.len (rx_word p.own) == p.ring.tx
