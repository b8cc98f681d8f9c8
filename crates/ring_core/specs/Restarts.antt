-- A ring that starts: a new one, and one that goes on with another length, on other pages of its owner.
use Rattle.std.specs.Prelude.{ℕ, List, Option}
use Rattle.argo_model.specs.Rules.Register.{new_ring, resized}
use Rattle.argo_model.specs.Rules.RingBytes.{PagedRing}
use Rattle.argo_model.specs.Rules.Starts.{started}
use Rattle.guest_pages.specs.Pages.{row_of, with_row}
use Rattle.guest_pages.specs.Rows.{numbers_of, row_bytes}
use Rattle.ring_core.specs.Held.{Held}

-- a new ring of this length on these pages
abbrev pub ring_on : ℕ → ℕ → List (ℕ × List ℕ) → PagedRing
ring_on serial len row = started (record { ring = new_ring serial len (numbers_of row); own = row_bytes row })

-- the owner's pages where the ring has given its own back
abbrev pub given_back : List (Option (List ℕ)) → Held → List (Option (List ℕ))
given_back private h = with_row private h.row

-- the bytes of the pages that the owner lends out of these, in this order
abbrev pub lent_bytes : List (Option (List ℕ)) → List ℕ → List ℕ
lent_bytes private numbers = row_bytes (row_of private numbers)

-- the ring starts with this length on pages of these numbers and bytes, with the notices that can still fit
abbrev pub restarted : ℕ → List ℕ → List ℕ → PagedRing → PagedRing
restarted len numbers own p = started (record { ring = resized p.ring len numbers; own = own })
