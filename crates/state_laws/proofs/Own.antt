-- Laws of a ring with its own bytes: what a message, a put and a start leave of its words, its slots and what it holds.
use Rattle.std.proofs.Common.{◌≡◌, ℕ, ◌+◌, ◌-◌, ◌<◌, ◌≤◌, Bool, true, if◌then◌else◌, IsTrue, List, [], ◌∷◌, ◌++◌, length, take, drop, get_or, refl, sym, ap, ◌∙◌, subst, arith, length-take, length-drop, get_or-drop}
use Rattle.std.specs.Int.{w32, from_le_bytes}
use Rattle.std.proofs.lemmas.List.{length-take-le}
use Rattle.std.proofs.lemmas.Nat.{from_le_bytes-to_le_bytes_4}
use Rattle.argo_base.specs.declared.message.Message.{Message}
use Rattle.argo_base.specs.Layout.{u32_at, u32_bytes}
use Rattle.argo_base.specs.Slots.{is_place, place_after, span_to}
use Rattle.argo_base.specs.Splice.{splice}
use Rattle.argo_base.proofs.SpliceLaws.{length-splice, take-splice_before, drop-splice_after, part-splice}
use Rattle.argo_base.proofs.SlotLaws.{IsLegal, IsPlace, place, place_after_place, span_to-same, span_to-place_after, sanitised-place, room_even}
use Rattle.argo_model.specs.Rules.State.{Ring}
use Rattle.argo_model.specs.Rules.Deliver.{ring_with, bytes_with}
use Rattle.argo_model.specs.Rules.Holds.{Holds}
use Rattle.argo_model.specs.Rules.Messages.{spell, room_of}
use Rattle.argo_model.specs.Rules.RingBytes.{PagedRing, rx_word, tx_word, slots, write_slots, free}
use Rattle.state_laws.specs.Valid.{IsHeld}
use Rattle.state_laws.proofs.Holding.{splice_before, splice_in, splice_after, written, rooms, length-spell, ends, accepted, rooms-push}

-- ---- words and slots

word_same : (xs ys : List ℕ) → ((i : ℕ) → i < 4 → get_or xs i 0 ≡ get_or ys i 0) → from_le_bytes w32 xs ≡ from_le_bytes w32 ys
word_same xs ys same =
    let a = same 0 (omega arith) in
    let b = same 1 (omega arith) in
    let c = same 2 (omega arith) in
    let d = same 3 (omega arith) in
    cc

module _ (own ws : List ℕ) (at : ℕ) (inside : at ≤ length own) where
  -- a word before what is written, and one behind it
  pub word_before : (off : ℕ) → off + 4 ≤ at → u32_at (splice own at ws) off ≡ u32_at own off
  word_before off before = word_same (drop off (splice own at ws)) (drop off own)
      (λ i less. get_or-drop off (splice own at ws) i 0 ∙ splice_before own ws at (off + i) inside (omega arith) ∙ sym (get_or-drop off own i 0))

  pub word_behind : (off : ℕ) → at + length ws ≤ off → u32_at (splice own at ws) off ≡ u32_at own off
  word_behind off behind = word_same (drop off (splice own at ws)) (drop off own)
      (λ i less. get_or-drop off (splice own at ws) i 0 ∙ splice_after own ws at (off + i) inside (omega arith) ∙ sym (get_or-drop off own i 0))

  -- the word that is written
  pub word_here : length ws ≡ 4 → u32_at (splice own at ws) at ≡ from_le_bytes w32 ws
  word_here four = word_same (drop at (splice own at ws)) ws
      (λ i less. get_or-drop at (splice own at ws) i 0 ∙ splice_in own ws at i inside (omega arith))

  pub slots_behind : (len : ℕ) → at + length ws ≤ 64 → slots len (splice own at ws) ≡ slots len own
  slots_behind len before = ap (take len) (drop-splice_after own ws at 64 before inside)

  pub slots_before : (len : ℕ) → 64 + len ≤ at → slots len (splice own at ws) ≡ slots len own
  slots_before len behind = take-splice_before own ws at 64 len behind inside

-- what a clean ring holds rests on its words and its slots alone
pub held_same : (own new : List ℕ) (r : Ring) → rx_word new ≡ rx_word own → tx_word new ≡ tx_word own → slots r.len new ≡ slots r.len own → IsHeld own r → IsHeld new r
held_same own new r rx tx same h =
    record {
      rx_is_place = subst (λ x. IsTrue (is_place r.len x)) (sym rx) h.rx_is_place;
      tx_is_word = tx ∙ h.tx_is_word;
      holds = subst (λ x. Holds (slots r.len new) r.len x r.tx r.untaken) (sym rx) (subst (λ s. Holds s r.len (rx_word own) r.tx r.untaken) (sym same) h.holds);
    }

pub length-u32 : (n : ℕ) → length (u32_bytes n) ≡ 4
length-u32 n = refl

-- ---- a new message

module _ (r : Ring) (own : List ℕ) (m : Message) (l : IsLegal r.len) (sized : 64 + r.len ≤ length own) (tx : IsPlace r.len r.tx) where
  slots_sized : length (slots r.len own) ≡ r.len
  slots_sized = length-take-le r.len (drop 64 own) (omega (arith, length-drop 64 own))

  slots_written : (bytes : List ℕ) → length bytes ≤ r.len → slots r.len (write_slots r.len r.tx bytes own) ≡ written r.len r.tx bytes (slots r.len own)
  slots_written bytes fit =
      let b = tx.below in
      let first = splice own (64 + r.tx) (take (r.len - r.tx) bytes) in
      let a = part-splice own (take (r.len - r.tx) bytes) 64 r.len r.tx (omega (arith, length-take (r.len - r.tx) bytes)) sized in
      let n : length first ≡ length own = length-splice own (take (r.len - r.tx) bytes) (64 + r.tx) (omega (arith, length-take (r.len - r.tx) bytes)) in
      let c = part-splice first (drop (r.len - r.tx) bytes) 64 r.len 0 (omega (arith, length-drop (r.len - r.tx) bytes)) (omega arith) in
      c ∙ ap (λ s. splice s 0 (drop (r.len - r.tx) bytes)) a

  length-write_slots : (bytes : List ℕ) → length bytes ≤ r.len → length (write_slots r.len r.tx bytes own) ≡ length own
  length-write_slots bytes fit =
      let b = tx.below in
      let first = splice own (64 + r.tx) (take (r.len - r.tx) bytes) in
      let n : length first ≡ length own = length-splice own (take (r.len - r.tx) bytes) (64 + r.tx) (omega (arith, length-take (r.len - r.tx) bytes)) in
      length-splice first (drop (r.len - r.tx) bytes) 64 (omega (arith, length-drop (r.len - r.tx) bytes)) ∙ n

  word_kept : (bytes : List ℕ) (off : ℕ) → length bytes ≤ r.len → off + 4 ≤ 64 → u32_at (write_slots r.len r.tx bytes own) off ≡ u32_at own off
  word_kept bytes off fit before =
      let b = tx.below in
      let first = splice own (64 + r.tx) (take (r.len - r.tx) bytes) in
      let n : length first ≡ length own = length-splice own (take (r.len - r.tx) bytes) (64 + r.tx) (omega (arith, length-take (r.len - r.tx) bytes)) in
      word_before first (drop (r.len - r.tx) bytes) 64 (omega arith) off before ∙ word_before own (take (r.len - r.tx) bytes) (64 + r.tx) (omega arith) off (omega arith)

  abbrev p : PagedRing
  p = record { ring = r; own = own }

  abbrev next : ℕ
  next = place_after r.len r.tx (room_of m)

  module _ (short : room_of m < r.len) where
    pub length-bytes_with : length (bytes_with p m) ≡ length own
    length-bytes_with =
        let s = length-spell m in
        let n = length-write_slots (spell m) (omega arith) in
        length-splice (write_slots r.len r.tx (spell m) own) (u32_bytes next) 4 (omega (arith, length-u32 next)) ∙ n

    pub next_place : IsPlace r.len next
    next_place = let e = room_even (length m.body) in place_after_place r.len r.tx (room_of m) tx l.even e (omega arith)

    rx_kept : rx_word (bytes_with p m) ≡ rx_word own
    rx_kept =
        let s = length-spell m in
        let n = length-write_slots (spell m) (omega arith) in
        word_before (write_slots r.len r.tx (spell m) own) (u32_bytes next) 4 (omega arith) 0 (omega arith) ∙ word_kept (spell m) 0 (omega arith) (omega arith)

    tx_new : tx_word (bytes_with p m) ≡ next
    tx_new =
        let s = length-spell m in
        let n = length-write_slots (spell m) (omega arith) in
        let b = next_place.below in
        let most = l.most in
        word_here (write_slots r.len r.tx (spell m) own) (u32_bytes next) 4 (omega arith) (length-u32 next) ∙ from_le_bytes-to_le_bytes_4 next (omega arith)

    slots_new : slots r.len (bytes_with p m) ≡ written r.len r.tx (spell m) (slots r.len own)
    slots_new =
        let s = length-spell m in
        let n = length-write_slots (spell m) (omega arith) in
        slots_behind (write_slots r.len r.tx (spell m) own) (u32_bytes next) 4 (omega arith) r.len (omega (arith, length-u32 next)) ∙ slots_written (spell m) (omega arith)

  -- so many bytes are free
  pub free_is : IsHeld own r → free p ≡ r.len - rooms r.untaken
  free_is h =
      let rx = place r.len (rx_word own) h.rx_is_place in
      let b = rx.below in
      let less = h.holds.leaves_room in
      let e = ends (slots r.len own) r.len (rx_word own) r.tx r.untaken b less h.holds.spelled in
      let same = span_to-same r.len (rx_word own) in
      ap (span_to r.len r.tx) (sanitised-place r.len (rx_word own) rx)
      ∙ ap (λ t. span_to r.len t (rx_word own)) e
      ∙ span_to-place_after r.len (rx_word own) (rx_word own) (rooms r.untaken) b b (omega (arith, same))
      ∙ ap (λ n. n - rooms r.untaken) same

  pub held_with : room_of m < free p → r.clean ≡ true → IsHeld own r → IsHeld (bytes_with p m) (ring_with r m)
  held_with fit clean h =
      let f = free_is h in
      let short : room_of m < r.len = omega arith in
      let rx = place r.len (rx_word own) h.rx_is_place in
      let push : (if r.clean then r.untaken ++ m ∷ [] else r.untaken) ≡ r.untaken ++ m ∷ [] = ap (λ (b : Bool). if b then r.untaken ++ m ∷ [] else r.untaken) clean in
      let less = h.holds.leaves_room in
      let all : Holds (written r.len r.tx (spell m) (slots r.len own)) r.len (rx_word own) next (r.untaken ++ m ∷ []) = record {
        leaves_room = let e = rooms-push r.untaken m in omega arith;
        spelled = accepted (slots r.len own) r.len (rx_word own) r.tx r.untaken m slots_sized rx.below tx.below (omega arith) h.holds.spelled;
      } in
      record {
        rx_is_place = subst (λ x. IsTrue (is_place r.len x)) (sym (rx_kept short)) h.rx_is_place;
        tx_is_word = tx_new short;
        holds =
            subst (λ x. Holds (slots r.len (bytes_with p m)) r.len x next (if r.clean then r.untaken ++ m ∷ [] else r.untaken)) (sym (rx_kept short))
            (subst (λ s. Holds s r.len (rx_word own) next (if r.clean then r.untaken ++ m ∷ [] else r.untaken)) (sym (slots_new short))
            (subst (Holds (written r.len r.tx (spell m) (slots r.len own)) r.len (rx_word own) next) (sym push) all));
      }
