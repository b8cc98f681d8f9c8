-- A message is offered to a ring.
use Rattle.std.specs.Prelude.{ℕ, not, if◌then◌else◌, List, [], ◌∷◌, ◌++◌, length, Option, Some, None}
use Rattle.argo_base.specs.declared.errno.Errno.TheVariants.{Srch, NoDev, ConnRefused, MsgSize, Again, Busy, Fault}
use Rattle.argo_base.specs.declared.message.Message.{Message}
use Rattle.argo_base.specs.declared.ring_key.RingKey.{RingKey}
use Rattle.argo_base.specs.Slots.{fits, is_too_big, place_after}
use Rattle.argo_base.specs.Match.{match_of}
use Rattle.argo_model.specs.declared.action.Load.{Load}
use Rattle.argo_model.specs.declared.action.Load.TheVariants.{Body, Faulted, Refused as RefusedLoad}
use Rattle.argo_model.specs.declared.action.Outcome.TheVariants.{Accepted, Refused}
use Rattle.argo_model.specs.Rules.State.{State, Domain, Live, Ring, domain_of, is_alive}
use Rattle.argo_base.specs.Notices.{is_busy, noted}
use Rattle.argo_model.specs.Rules.Effects.{Change, Effect, refused, leaving, refuse_if, lifted, change_in}
use Rattle.argo_model.specs.Rules.Messages.{spell, room_of}
use Rattle.argo_model.specs.Rules.RingBytes.{PagedRing, paged, set_paged, with_notices, free, write_slots, write_tx}

-- what a sender offers: its domain, the port that it named, the type, and what was gathered
pub record Offer : Type 0 where
  pub sender : ℕ
  pub port : ℕ
  pub kind : ℕ
  pub load : Load

-- the message that an offer is with this body
abbrev pub message_of : Offer → List ℕ → Message
message_of o bytes = record { src = o.sender; port = o.port; kind = o.kind; body = bytes }

-- a ring after a message: the next one follows it, and a clean ring counts it among the untaken
abbrev pub ring_with : Ring → Message → Ring
ring_with r m =
    record r {
      tx = place_after r.len r.tx (room_of m);
      untaken = if r.clean then r.untaken ++ m ∷ [] else r.untaken;
    }

-- its bytes after a message, which is spelled in the slots from tx on, and the new tx is in the tx word
abbrev pub bytes_with : PagedRing → Message → List ℕ
bytes_with p m = write_tx (ring_with p.ring m).tx (write_slots p.ring.len p.ring.tx (spell m) p.own)

-- the message is in the ring, and its owner is signalled; a notice of the sender stays
abbrev pub with_message : PagedRing → Message → PagedRing
with_message p m = record { ring = ring_with p.ring m; own = bytes_with p m }

-- the sender's notice for a body of n bytes is set or raised
abbrev pub with_notice : ℕ → ℕ → PagedRing → PagedRing
with_notice sender n p = with_notices p (noted p.ring.notices sender n)

abbrev pub accepted : PagedRing → ℕ → Message → Change PagedRing
accepted p owner m = record { outcome = Accepted (length m.body); left = Some (with_message p m); signals = owner ∷ [] }

-- a body of n bytes that does not fit now: the sender waits for room, and may try again; too many others leave no place for it
abbrev pub wait_for_room : PagedRing → ℕ → ℕ → Change PagedRing
wait_for_room p sender n =
    refuse_if (is_busy p.ring.notices sender) Busy (
    leaving (Refused Again) (with_notice sender n p))

-- a body of n bytes must fit: ever, and now
abbrev pub if_it_fits : PagedRing → ℕ → ℕ → Change PagedRing → Change PagedRing
if_it_fits p sender n rest =
    refuse_if (is_too_big p.ring.len n) MsgSize (
    if fits (free p) n then rest else wait_for_room p sender n)

-- what was gathered is offered to a ring of this owner: buffers that were refused; a body that met a fault, which waits for room
-- first; or a message, of which the owner is signalled
abbrev pub offer_load : PagedRing → ℕ → Offer → Load → Change PagedRing
offer_load p owner o (RefusedLoad e) = refused e
offer_load p owner o (Faulted n) = if_it_fits p o.sender n (refused Fault)
offer_load p owner o (Body bytes) = if_it_fits p o.sender (length bytes) (accepted p owner (message_of o bytes))

abbrev pub offer : PagedRing → ℕ → Offer → Change PagedRing
offer p owner o = offer_load p owner o o.load

-- the receiver's ring that the sender meets takes the offer; a receiver that has none for it refuses the connection
abbrev pub offer_to_match : Live → ℕ → Offer → Option (RingKey × Ring) → Change Live
offer_to_match live to o None = refused ConnRefused
offer_to_match live to o (Some e) = lifted (set_paged live e.0) (offer (paged live.bytes e.1) to o)

abbrev pub offer_to_live : ℕ → ℕ → Offer → Live → Change Live
offer_to_live to to_port o live = offer_to_match live to o (match_of live.rings to_port o.sender)

abbrev pub offer_to_life : ℕ → ℕ → Offer → Option Live → Change Live
offer_to_life to to_port o None = refused ConnRefused
offer_to_life to to_port o (Some live) = offer_to_live to to_port o live

-- and so does a receiver that is off
abbrev pub offer_to_domain : ℕ → ℕ → Offer → Option Domain → Change Live
offer_to_domain to to_port o None = refused ConnRefused
offer_to_domain to to_port o (Some x) = refuse_if (not x.on) ConnRefused (offer_to_life to to_port o x.life)

-- the caller sends: the receiver must be alive, the caller on, and the receiver have a ring for it
abbrev pub deliver : State → Domain → ℕ → ℕ → Offer → Effect
deliver s x to to_port o =
    change_in s to (
    refuse_if (not (is_alive s to)) Srch (
    refuse_if (not x.on) NoDev (
    offer_to_domain to to_port o (domain_of s to))))
