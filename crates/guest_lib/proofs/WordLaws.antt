-- What the two words and the header lead to.
use Rattle.std.proofs.Common.{◌≡◌, ◌≢◌, ℕ, ◌+◌, ◌-◌, ◌*◌, ◌%◌, ◌<◌, ◌≤◌, Bool, true, false, not, ◌&&◌, ◌==◌, List, [], length, take, IsTrue, refl, ap, ◌∙◌, arith}
use Rattle.std.proofs.lemmas.Bool.Decides.{nat_tests}
use Rattle.std.proofs.lemmas.List.{take_all}
use Rattle.argo_base.specs.declared.piece.Piece.{Piece}
use Rattle.argo_base.specs.Layout.{u32_at}
use Rattle.argo_base.specs.Slots.{is_legal, is_place, up, place_after}
use Rattle.argo_abi.specs.declared.message_head.MessageHead.{MessageHead}
use Rattle.argo_abi.specs.Structures.{message_head_of}
use Rattle.argo_model.specs.declared.action.Outcome.{Outcome}
use Rattle.argo_model.specs.Programs.Asks.{Next, Rests}
use Rattle.argo_model.specs.Programs.Recv.{FoundBad, End, end_if, recv_words, recv_head, is_message_size, take_slots, recv_body, slot_pieces}
use Rattle.guest_lib.specs.Receiving.{head_ahead, ahead_at, ReadBody}

pub goes_on : (b : Bool) (end : Next) (k : Rests) (os : List Outcome) → b ≡ false → end_if b end k os ≡ k os
goes_on b end k os fails = ap (λ x. end_if x end k os) fails

pub ends : (b : Bool) (end : Next) (k : Rests) (os : List Outcome) → b ≡ true → end_if b end k os ≡ end
ends b end k os holds = ap (λ x. end_if x end k os) holds

both : (a b : Bool) → a ≡ true → b ≡ true → not (a && b) ≡ false
both a b x y = ap (λ a. not (a && b)) x ∙ ap not y

module _ (end : End) (page len rx tx : ℕ) (os : List Outcome) where
  -- both words are places, and not the same
  pub words_good : is_place len rx ≡ true → is_place len tx ≡ true → rx ≢ tx → recv_words end (page * 4096) len rx tx os ≡ head_ahead end page len rx tx os
  words_good x y other =
      let differ : (rx == tx) ≡ false = grind (arith, nat_tests) in
      goes_on (not (is_place len rx && is_place len tx)) _ _ _ (both (is_place len rx) (is_place len tx) x y)
      ∙ goes_on (rx == tx) _ _ _ differ

  -- the header fits: the body is fetched
  pub head_good : (head : List ℕ) → is_message_size len rx tx (u32_at head 0) ≡ true
      → recv_head end (page * 4096) len rx tx head os
      ≡ take_slots end (page * 4096) len (place_after len rx 16) (u32_at head 0 - 16) (recv_body end (page * 4096) len rx head) os
  head_good head holds = goes_on (not (is_message_size len rx tx (u32_at head 0))) _ _ _ (ap not holds)

  pub head_bad : (head : List ℕ) → is_message_size len rx tx (u32_at head 0) ≡ false → recv_head end (page * 4096) len rx tx head os ≡ end FoundBad
  head_bad head fails = ends (not (is_message_size len rx tx (u32_at head 0))) _ _ _ (ap not fails)

  -- a body that is to be fetched from its first byte on
  pub body_ahead : (bytes got : List ℕ) (slots : List Piece) (head : MessageHead) (word : ℕ)
      → slots ≡ slot_pieces (page * 4096) len (place_after len rx 16) (head.len - 16) → got ≡ [] → word ≡ place_after len rx (up head.len)
      → head ≡ message_head_of bytes
      → take_slots end (page * 4096) len (place_after len rx 16) (u32_at bytes 0 - 16) (recv_body end (page * 4096) len rx bytes) os
      ≡ ahead_at end page len (ReadBody slots got head word) os
  body_ahead bytes got slots head word slots_are got_is word_is head_is = rw (slots_are, got_is, word_is, head_is) refl

-- a message that ends at the tx word or before it is shorter than the ring
pub short_message : (len rx tx m : ℕ) → len ≤ 0x1000000 → 0 < len → is_message_size len rx tx m ≡ true → (16 ≤ m) × (m < 0x1000000)
short_message len rx tx m small some fits =
    let least : 16 ≤ m = grind (arith, nat_tests) in
    let most : up m ≤ (len + tx - rx) % len = grind (arith, nat_tests) in
    (least, omega (arith, most))

-- a header of 16 bytes
pub head_read : (bytes chunk : List ℕ) (head : MessageHead) → length bytes ≡ 16 → chunk ≡ take 16 bytes → head ≡ message_head_of chunk → head ≡ message_head_of bytes
head_read bytes chunk head long first is = is ∙ ap message_head_of (first ∙ take_all 16 bytes (omega (arith, long)))

pub legal_small : (len : ℕ) → IsTrue (is_legal len) → (0 < len) × (len ≤ 0x1000000)
legal_small len legal =
    let some : 0 < len = grind (arith, nat_tests) in
    let small : len ≤ 0x1000000 = grind (arith, nat_tests) in
    (some, small)
