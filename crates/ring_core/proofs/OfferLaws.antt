-- Laws of a message that is offered to a ring.
use Rattle.std.proofs.Common.{◌≡◌, ℕ, ◌<◌, ◌≤◌, Bool, true, false, ◌&&◌, if◌then◌else◌, IsTrue, length, List, refl, ap, ◌∙◌, arith}
use Rattle.std.specs.Prelude.{not}
use Rattle.std.proofs.lemmas.Bool.Decides.{nat_tests}
use Rattle.argo_base.specs.declared.errno.Errno.TheVariants.{MsgSize}
use Rattle.argo_base.specs.Slots.{fits, is_too_big, is_legal, is_place, place_after, room}
use Rattle.argo_base.proofs.SlotLaws.{legal, place, is_place_from, place_after_place, room_even}
use Rattle.argo_model.specs.declared.action.Load.TheVariants.{Body}
use Rattle.argo_model.specs.Rules.Deliver.{Offer, offer, offer_load, wait_for_room, accepted, message_of, with_message}
use Rattle.argo_model.specs.Rules.Effects.{Change, refuse_if, after}
use Rattle.argo_model.specs.Rules.RingBytes.{PagedRing, free}
use Rattle.ring_core.proofs.TestLaws.{both}

fit_is : (p : PagedRing) (sender n : ℕ) (rest : Change PagedRing) (big fit : Bool) → (not big && fit) ≡ true
    → refuse_if big MsgSize (if fit then rest else wait_for_room p sender n) ≡ rest
fit_is p sender n rest true fit h = cc
fit_is p sender n rest false true h = refl
fit_is p sender n rest false false h = cc

-- a body that fits is accepted
pub accepted_left : (p : PagedRing) (owner : ℕ) (o : Offer) (bytes : List ℕ) → o.load ≡ Body bytes
    → (not (is_too_big p.ring.len (length bytes)) && fits (free p) (length bytes)) ≡ true
    → after p (offer p owner o) ≡ with_message p (message_of o bytes)
accepted_left p owner o bytes is fit =
    ap (λ l. after p (offer_load p owner o l)) is
    ∙ ap (after p) (fit_is p o.sender (length bytes) (accepted p owner (message_of o bytes)) (is_too_big p.ring.len (length bytes)) (fits (free p) (length bytes)) fit)

-- what fits takes less than all the slots
less_room : (len n : ℕ) → IsTrue (not (is_too_big len n)) → room n < len
less_room len n test = grind (arith, nat_tests)

pub record HasRoom (len n : ℕ) (fit : Bool) : Type 0 where
  pub less : room n < len
  pub fits_now : IsTrue fit

pub room_says : (len n : ℕ) (fit : Bool) → IsTrue (not (is_too_big len n) && fit) → HasRoom len n fit
room_says len n fit test =
    let b = both (not (is_too_big len n)) fit test in
    record { less = less_room len n b.0; fits_now = b.1 }

-- the place after a message that has room
pub next_place : (len at n : ℕ) → IsTrue (is_legal len) → IsTrue (is_place len at) → room n ≤ len → IsTrue (is_place len (place_after len at (room n)))
next_place len at n is_legal_len at_place most =
    is_place_from len (place_after len at (room n))
    (place_after_place len at (room n) (place len at at_place) (legal len is_legal_len).even (room_even n) most)
