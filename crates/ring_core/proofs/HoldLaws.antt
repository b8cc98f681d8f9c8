-- Laws of the messages that a ring holds: a message that is written behind them is held too, and what is left after the first of
-- them are taken is held still.
use Rattle.std.proofs.Common.{◌≡◌, ℕ, zero, suc, ◌+◌, ◌-◌, ◌<◌, ◌≤◌, List, [], ◌∷◌, ◌++◌, length, take, drop, refl, sym, ap, ◌∙◌, subst, add-zero, arith, length-drop, sum_by}
use Rattle.std.specs.Prelude.{IsTrue}
use Rattle.std.proofs.lemmas.List.{take-append-le}
use Rattle.std.proofs.lemmas.List.Sums.{sum_by-cons, sum_by_push, sum_by-take-drop}
use Rattle.argo_base.specs.declared.message.Message.{Message}
use Rattle.argo_base.specs.Slots.{place_after, span_to, span, fits}
use Rattle.argo_base.specs.Splice.{splice}
use Rattle.argo_base.specs.Rounds.{written_round}
use Rattle.argo_base.proofs.SlotLaws.{IsPlace, place_after-zero, place_after-place_after, place_after_below, sanitised-place, span_to-same, span_to-place_after, fits_below}
use Rattle.argo_base.proofs.SpliceLaws.{take-splice, take-splice_before}
use Rattle.argo_model.specs.Rules.Messages.{spell, room_of}
use Rattle.argo_model.specs.Rules.Holds.{bytes_from, HoldsFrom, Holds}
use Rattle.argo_model.specs.Rules.Puts.{place_after_first}
use Rattle.ring_core.proofs.RoundLaws.{length-bytes_from, bytes_from_place, bytes_from_written, length-written_round}

-- ---- messages one after another

-- from an offset on the bytes spell the messages, each where the room of the one before it ends, without going round
abbrev pub LieFrom : List ℕ → ℕ → List Message → Type 0
LieFrom bytes o [] = Unit {0}
LieFrom bytes o (m ∷ ms) = (take (length (spell m)) (drop o bytes) ≡ spell m) × LieFrom bytes (o + room_of m) ms

pub length-spell : (m : Message) → length (spell m) ≡ 16 + length m.body
length-spell m = omega arith

pub spell_in_room : (m : Message) → length (spell m) ≤ room_of m
spell_in_room m = let e = length-spell m in omega arith

-- the rooms of messages
abbrev pub rooms_of : List Message → ℕ
rooms_of ms = sum_by room_of ms

-- the first bytes that are read from an offset, where they do not go round
first_bytes : (bytes : List ℕ) (o n : ℕ) → o + n ≤ length bytes → take n (bytes_from o bytes) ≡ take n (drop o bytes)
first_bytes bytes o n inside = take-append-le n (drop o bytes) (take o bytes) (omega (arith, length-drop o bytes))

-- messages that lie in the bytes before a write lie there after it
pub lie_after_write : (bytes zs : List ℕ) (o : ℕ) (ms : List Message) (at : ℕ) → at ≤ length bytes → o + rooms_of ms ≤ at
    → LieFrom bytes o ms → LieFrom (splice bytes at zs) o ms
lie_after_write bytes zs o [] at inside before lie = tt
lie_after_write bytes zs o (m ∷ ms) at inside before lie =
    let r = sum_by-cons room_of m ms in
    let s = spell_in_room m in
    let e = take-splice_before bytes zs at o (length (spell m)) (omega arith) inside in
    (e ∙ lie.0, lie_after_write bytes zs (o + room_of m) ms at inside (omega arith) lie.1)

-- one message more behind them
pub lie_push : (bytes : List ℕ) (o : ℕ) (ms : List Message) (m : Message) → LieFrom bytes o ms
    → take (length (spell m)) (drop (o + rooms_of ms) bytes) ≡ spell m → LieFrom bytes o (ms ++ m ∷ [])
lie_push bytes o [] m lie here = (rw add-zero at here, tt)
lie_push bytes o (n ∷ ms) m lie here =
    let r : o + rooms_of (n ∷ ms) ≡ o + room_of n + rooms_of ms = let q = sum_by-cons room_of n ms in omega arith in
    (lie.0, lie_push bytes (o + room_of n) ms m lie.1 (rw r at here))

-- holding is lying in the slots as they are read from the rx place
module _ (len rx : ℕ) (slots : List ℕ) (all : length slots ≡ len) (below : rx < len) where
  spelled_at : (o : ℕ) (m : Message) → o + room_of m ≤ len → o < len
      → take (length (spell m)) (bytes_from (place_after len rx o) slots) ≡ take (length (spell m)) (drop o (bytes_from rx slots))
  spelled_at o m inside less =
      let s = spell_in_room m in
      let l = length-bytes_from len rx slots all below in
      ap (take (length (spell m))) (bytes_from_place len rx slots all below o less)
      ∙ first_bytes (bytes_from rx slots) o (length (spell m)) (omega arith)

  pub lie_from_holds : (o : ℕ) (ms : List Message) (tx : ℕ) → o + rooms_of ms < len → HoldsFrom slots len (place_after len rx o) tx ms
      → LieFrom (bytes_from rx slots) o ms × (place_after len rx (o + rooms_of ms) ≡ tx)
  lie_from_holds o [] tx less held = (tt, ap (place_after len rx) (add-zero o) ∙ held)
  lie_from_holds o (m ∷ ms) tx less held =
      let r = sum_by-cons room_of m ms in
      let k : o + room_of m + rooms_of ms ≡ o + rooms_of (m ∷ ms) = omega arith in
      let rest = lie_from_holds (o + room_of m) ms tx (omega arith)
      (subst (λ t. HoldsFrom slots len t tx ms) (place_after-place_after len rx o (room_of m)) held.1) in
      ((sym (spelled_at o m (omega arith) (omega arith)) ∙ held.0, rest.0), ap (place_after len rx) (sym k) ∙ rest.1)

  pub holds_from_lie : (o : ℕ) (ms : List Message) (tx : ℕ) → o + rooms_of ms < len → LieFrom (bytes_from rx slots) o ms
      → place_after len rx (o + rooms_of ms) ≡ tx → HoldsFrom slots len (place_after len rx o) tx ms
  holds_from_lie o [] tx less lie ends = ap (place_after len rx) (sym (add-zero o)) ∙ ends
  holds_from_lie o (m ∷ ms) tx less lie ends =
      let r = sum_by-cons room_of m ms in
      let k : o + room_of m + rooms_of ms ≡ o + rooms_of (m ∷ ms) = omega arith in
      let rest = holds_from_lie (o + room_of m) ms tx (omega arith) lie.1 (ap (place_after len rx) k ∙ ends) in (
        spelled_at o m (omega arith) (omega arith) ∙ lie.0,
        subst (λ t. HoldsFrom slots len t tx ms) (sym (place_after-place_after len rx o (room_of m))) rest,
      )

-- ---- holding

-- a place of the ring with nothing before it
at_zero : (slots : List ℕ) (len rx tx : ℕ) (ms : List Message) → rx < len → HoldsFrom slots len rx tx ms → HoldsFrom slots len (place_after len rx 0) tx ms
at_zero slots len rx tx ms below held = subst (λ t. HoldsFrom slots len t tx ms) (sym (place_after-zero len rx below)) held

-- the hypervisor's place is so far behind the receiver's
pub holds_ends : (slots : List ℕ) (len rx tx : ℕ) (ms : List Message) → length slots ≡ len → rx < len → Holds slots len rx tx ms
    → place_after len rx (rooms_of ms) ≡ tx
holds_ends slots len rx tx ms all below held =
    let room : rooms_of ms < len = held.leaves_room in
    let z : 0 + rooms_of ms ≡ rooms_of ms = omega arith in
    rw z at (lie_from_holds len rx slots all below 0 ms tx (omega arith) (at_zero slots len rx tx ms below held.spelled)).1

-- so many bytes are free
pub holds-span : (slots : List ℕ) (len rx tx : ℕ) (ms : List Message) → length slots ≡ len → IsPlace len rx → Holds slots len rx tx ms
    → span len rx tx ≡ len - rooms_of ms
holds-span slots len rx tx ms all p held =
    let below = p.below in
    let room = held.leaves_room in
    let e = holds_ends slots len rx tx ms all below held in
    let s = span_to-same len rx in
    let f = span_to-place_after len rx rx (rooms_of ms) below below (omega arith) in
    ap (span_to len tx) (sanitised-place len rx p)
    ∙ ap (λ t. span_to len t rx) (sym e) ∙ f ∙ ap (λ x. x - rooms_of ms) s

-- nothing is held from a place to itself
pub holds-none : (slots : List ℕ) (len at : ℕ) → at < len → Holds slots len at at []
holds-none slots len at below = record { leaves_room = omega arith; spelled = refl }

-- a message that is written behind the others, where its room leaves a byte, is held after them
pub holds_written : (slots : List ℕ) (len rx tx : ℕ) (ms : List Message) (m : Message) → length slots ≡ len → rx < len
    → Holds slots len rx tx ms → rooms_of ms + room_of m < len
    → Holds (written_round len slots tx (spell m)) len rx (place_after len tx (room_of m)) (ms ++ m ∷ [])
holds_written slots len rx tx ms m all below held fit =
    let room : rooms_of ms < len = held.leaves_room in
    let s = spell_in_room m in
    let l = length-bytes_from len rx slots all below in
    let z : 0 + rooms_of ms ≡ rooms_of ms = omega arith in
    let lie = lie_from_holds len rx slots all below 0 ms tx (omega arith) (at_zero slots len rx tx ms below held.spelled) in
    let ends : place_after len rx (rooms_of ms) ≡ tx = holds_ends slots len rx tx ms all below held in
    let tx_below : tx < len = subst (λ t. t < len) ends (place_after_below len rx (rooms_of ms) (omega arith)) in
    let same : length (written_round len slots tx (spell m)) ≡ len = length-written_round len slots tx (spell m) all (omega arith) (omega arith) in
    let w : bytes_from rx (written_round len slots tx (spell m)) ≡ splice (bytes_from rx slots) (rooms_of ms) (spell m) =
    rw ends at (bytes_from_written len rx slots all below (rooms_of ms) (spell m) room (omega arith)) in
    let kept = lie_after_write (bytes_from rx slots) (spell m) 0 ms (rooms_of ms) (omega arith) (omega arith) lie.0 in
    let new : take (length (spell m)) (drop (0 + rooms_of ms) (splice (bytes_from rx slots) (rooms_of ms) (spell m))) ≡ spell m =
    rw z (take-splice (bytes_from rx slots) (spell m) (rooms_of ms) (omega arith)) in
    let both = lie_push (splice (bytes_from rx slots) (rooms_of ms) (spell m)) 0 ms m kept new in
    let sum : rooms_of (ms ++ m ∷ []) ≡ rooms_of ms + room_of m = sum_by_push room_of ms m in
    let far : 0 + rooms_of (ms ++ m ∷ []) ≡ rooms_of ms + room_of m = omega arith in
    let ends_new : place_after len rx (0 + rooms_of (ms ++ m ∷ [])) ≡ place_after len tx (room_of m) =
    ap (place_after len rx) far ∙ sym (place_after-place_after len rx (rooms_of ms) (room_of m)) ∙ ap (λ t. place_after len t (room_of m)) ends in
    let lie_new = subst (λ bytes. LieFrom bytes 0 (ms ++ m ∷ [])) (sym w) both in
    let spelled_new = holds_from_lie len rx (written_round len slots tx (spell m)) same below 0 (ms ++ m ∷ []) (place_after len tx (room_of m)) (omega arith) lie_new ends_new in
    record {
      leaves_room = omega arith;
      spelled = subst (λ t. HoldsFrom (written_round len slots tx (spell m)) len t (place_after len tx (room_of m)) (ms ++ m ∷ [])) (place_after-zero len rx below) spelled_new;
    }

-- the same where a body fits into the free bytes
pub holds_accepted : (slots : List ℕ) (len rx tx : ℕ) (ms : List Message) (m : Message) → length slots ≡ len → IsPlace len rx
    → Holds slots len rx tx ms → IsTrue (fits (span len rx tx) (length m.body))
    → Holds (written_round len slots tx (spell m)) len rx (place_after len tx (room_of m)) (ms ++ m ∷ [])
holds_accepted slots len rx tx ms m all p held test =
    let room = held.leaves_room in
    let f = fits_below (span len rx tx) (length m.body) test in
    let e = holds-span slots len rx tx ms all p held in
    let below = p.below in
    holds_written slots len rx tx ms m all below held (omega arith)

-- after the first k messages the rest is held still
holds_from_taken : (slots : List ℕ) (len at tx : ℕ) (ms : List Message) (k : ℕ) → at < len → HoldsFrom slots len at tx ms
    → HoldsFrom slots len (place_after len at (rooms_of (take k ms))) tx (drop k ms)
holds_from_taken slots len at tx ms zero below held = at_zero slots len at tx ms below held
holds_from_taken slots len at tx [] (suc k) below held = at_zero slots len at tx [] below held
holds_from_taken slots len at tx (m ∷ ms) (suc k) below held =
    let r = sum_by-cons room_of m (take k ms) in
    let b = place_after_below len at (room_of m) (omega arith) in
    subst (λ t. HoldsFrom slots len t tx (drop k ms))
    (place_after-place_after len at (room_of m) (rooms_of (take k ms)) ∙ ap (place_after len at) (sym r))
    (holds_from_taken slots len (place_after len at (room_of m)) tx ms k b held.1)

pub holds_taken : (slots : List ℕ) (len rx tx : ℕ) (ms : List Message) (k : ℕ) → rx < len → Holds slots len rx tx ms
    → Holds slots len (place_after_first len rx ms k) tx (drop k ms)
holds_taken slots len rx tx ms k below held =
    let room = held.leaves_room in
    let s = sum_by-take-drop room_of ms k in
    record { leaves_room = omega arith; spelled = holds_from_taken slots len rx tx ms k below held.spelled }
