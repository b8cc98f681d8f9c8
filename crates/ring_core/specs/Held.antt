-- What contracts see of a ring that holds its own pages, and what always holds of it.
use Rattle.std.specs.Prelude.{◌≡◌, ℕ, Bool, IsTrue, IsFalse, List, [], length}
use Rattle.std.specs.List.{list_all}
use Rattle.argo_base.specs.declared.message.Message.{Message}
use Rattle.argo_base.specs.declared.ring_key.RingId.{RingId}
use Rattle.argo_base.specs.Notices.{Notices}
use Rattle.argo_base.specs.Slots.{is_legal, is_place, page_count}
use Rattle.argo_model.specs.Rules.Register.{can_fit}
use Rattle.argo_model.specs.Rules.RingBytes.{PagedRing}
use Rattle.guest_pages.specs.Rows.{numbers_of, row_bytes}
use Rattle.ring_core.specs.Clean.{IsClean}

-- a ring that holds its own pages: who owns it and what it is named, the count of its slot bytes, its pages with their numbers, the
-- place of the next message, whether it is clean, the messages that were not taken, who waits for room, and whether one message
-- more can be listed without memory
pub record Held : Type 0 where
  pub id : RingId
  pub len : ℕ
  pub row : List (ℕ × List ℕ)
  pub tx : ℕ
  pub clean : Bool
  pub untaken : List Message
  pub notices : Notices
  pub has_room : Bool

-- it as the rules have it, with its own bytes, where its owner made it under a serial
abbrev pub paged : ℕ → Held → PagedRing
paged serial h =
    record {
      ring = record {
        serial = serial;
        len = h.len;
        pages = numbers_of h.row;
        tx = h.tx;
        clean = h.clean;
        untaken = h.untaken;
        notices = h.notices;
      };
      own = row_bytes h.row;
    }

-- a ring after another is what an act of the rules leaves of that one, under whatever serial
abbrev pub Becomes : Held → Held → (PagedRing → PagedRing) → Type 0
Becomes old new act = (serial : ℕ) → paged serial new ≡ act (paged serial old)

-- an answer is what the rules say of a ring, under whatever serial
abbrev pub IsSaid : {X : Type 0} → Held → X → (PagedRing → X) → Type 0
IsSaid {X} h answer rule = (serial : ℕ) → answer ≡ rule (paged serial h)

-- a legal length, the pages for it, a place for the next message, notices that can fit, and untaken messages that a clean ring
-- holds and a dirty one has none of. That the page numbers differ is kept by the row, and that there are at most 32 notices, of
-- different domains, by the notices
pub record IsRing (h : Held) : Type 0 where
  pub legal : IsTrue (is_legal h.len)
  pub counted : length h.row ≡ page_count h.len
  pub place : IsTrue (is_place h.len h.tx)
  pub able : IsTrue (list_all (can_fit h.len) h.notices)
  pub clean : IsTrue h.clean → IsClean h.len h.tx h.untaken (row_bytes h.row)
  pub dirty : IsFalse h.clean → h.untaken ≡ []

-- another call may come between a reservation and the message that it is for, and the ring keeps its name
pub record Keeps (old new : Held) : Type 0 where
  pub id : new.id ≡ old.id
  pub room : IsTrue old.has_room → IsTrue new.has_room
