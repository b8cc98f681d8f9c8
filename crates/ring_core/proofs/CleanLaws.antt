-- A clean ring's bytes hold its untaken messages, from its start on, through each message that is accepted and each put that leaves
-- it clean.
use Rattle.std.proofs.Common.{◌≡◌, ℕ, ◌+◌, ◌-◌, ◌%◌, ◌<◌, ◌≤◌, Bool, true, false, ◌==◌, if◌then◌else◌, List, [], ◌∷◌, ◌++◌, length, take, drop, Some, ◌⊎◌, inl, inr, ⊎_elim, refl, sym, ap, ◌∙◌, subst, arith, length-take, length-drop}
use Rattle.std.specs.Prelude.{IsTrue, IsFalse}
use Rattle.std.proofs.lemmas.List.{length-take-le, nil_from_length}
use Rattle.std.proofs.lemmas.List.Sums.{sum_by-cons, sum_by-take-le}
use Rattle.std.proofs.lemmas.Bool.{cases_lt, cases_eq, false≢true}
use Rattle.std.proofs.lemmas.Bool.Decides.{nat_tests}
use Rattle.argo_base.specs.declared.message.Message.{Message}
use Rattle.argo_base.specs.Layout.{u32_at, u32_bytes}
use Rattle.argo_base.specs.Rounds.{written_round}
use Rattle.argo_base.specs.Slots.{is_place, place_after, sanitised, span, fits}
use Rattle.argo_base.specs.Splice.{splice}
use Rattle.argo_base.proofs.SlotLaws.{IsPlace, place, is_place_from, place_after_place, room_even, sanitised_place, fits_below}
use Rattle.argo_base.proofs.SpliceLaws.{splice-nil, take-splice_before, drop-splice_after, length-splice}
use Rattle.argo_model.specs.Rules.Holds.{Holds}
use Rattle.argo_model.specs.Rules.Messages.{spell, room_of}
use Rattle.argo_model.specs.Rules.Puts.{touches, place_after_first, taken_by}
use Rattle.argo_model.specs.Rules.RingBytes.{rx_word, tx_word, slots, write_slots, write_tx}
use Rattle.argo_model.specs.Rules.Starts.{start_place, starts_clean}
use Rattle.ring_space.proofs.RunLaws.{slots-write_slots}
use Rattle.ring_core.specs.Clean.{IsClean}
use Rattle.ring_core.proofs.HoldLaws.{rooms_of, holds_accepted, holds_taken, holds-none, holds-span, spell_in_room}
use Rattle.ring_core.proofs.MoveLaws.{taken_by_says}
use Rattle.ring_core.proofs.TestLaws.{both, says_same}
use Rattle.ring_core.proofs.WordLaws.{word_stays, word_stays_behind, word_written, word_put}

-- the bytes of a ring of this length are all there
pub record Fits (len : ℕ) (own : List ℕ) : Type 0 where
  pub least : 48 ≤ len
  pub most : len ≤ 0x1000000
  pub even : len % 16 ≡ 0
  pub sized : 64 + len ≤ length own

length-slots : (len : ℕ) (own : List ℕ) → Fits len own → length (slots len own) ≡ len
length-slots len own f = let s = f.sized in length-take-le len (drop 64 own) (omega (arith, length-drop 64 own))

-- ---- a ring whose words and slots are as they were

kept : (len tx : ℕ) (untaken : List Message) (own new : List ℕ) → tx_word new ≡ tx_word own → rx_word new ≡ rx_word own → slots len new ≡ slots len own
    → IsClean len tx untaken own → IsClean len tx untaken new
kept len tx untaken own new tx_same rx_same slots_same h =
    record {
      tx_is = tx_same ∙ h.tx_is;
      rx_place = subst (λ r. IsTrue (is_place len r)) (sym rx_same) h.rx_place;
      holds =
          subst (λ r. Holds (slots len new) len r tx untaken) (sym rx_same) (
          subst (λ s. Holds s len (rx_word own) tx untaken) (sym slots_same) h.holds);
    }

-- ---- starts

pick_place : (len a b : ℕ) (test : Bool) → (IsTrue test → IsPlace len a) → IsPlace len b → IsPlace len (if test then a else b)
pick_place len a b true there other = there refl
pick_place len a b false there other = other

-- a ring starts at one of its places
pub start_place_is : (len rx tx : ℕ) → 0 < len → IsTrue (is_place len (start_place len rx tx))
start_place_is len rx tx some =
    is_place_from len (start_place len rx tx)
    (pick_place len tx (sanitised len rx) (is_place len tx) (place len tx) (sanitised_place len rx some))

-- the tx word that a start leaves is where it goes on
pub started_tx : (len : ℕ) (own : List ℕ) → Fits len own
    → tx_word (if is_place len (tx_word own) then own else write_tx (start_place len (rx_word own) (tx_word own)) own) ≡ start_place len (rx_word own) (tx_word own)
started_tx len own f = by (is_place len (tx_word own)) refl where
  by : (kept : Bool) → is_place len (tx_word own) ≡ kept
      → tx_word (if kept then own else write_tx (if kept then tx_word own else sanitised len (rx_word own)) own) ≡ (if kept then tx_word own else sanitised len (rx_word own))
  by true is = refl
  by false is =
      let s = f.sized in
      let m = f.most in
      let b = (sanitised_place len (rx_word own) (let l = f.least in omega arith)).below in
      word_written own 4 (sanitised len (rx_word own)) (omega arith) (omega arith)

pub started_rx : (len tx : ℕ) (own : List ℕ) (kept : Bool) → Fits len own → rx_word (if kept then own else write_tx tx own) ≡ rx_word own
started_rx len tx own true f = refl
started_rx len tx own false f = let s = f.sized in word_stays own (u32_bytes tx) 4 0 (omega arith) (omega arith)

-- a ring that starts clean holds nothing
pub clean_started : (len : ℕ) (own : List ℕ) → Fits len own → IsTrue (starts_clean len (rx_word own) (tx_word own))
    → IsClean len (start_place len (rx_word own) (tx_word own)) [] (if is_place len (tx_word own) then own else write_tx (start_place len (rx_word own) (tx_word own)) own)
clean_started len own f clean =
    let rx = rx_word own in
    let tx = start_place len rx (tx_word own) in
    let new = if is_place len (tx_word own) then own else write_tx tx own in
    let tests = both (is_place len rx) (rx == tx) clean in
    let same : rx ≡ tx = says_same rx tx tests.1 in
    let b = (place len rx tests.0).below in
    let stays = started_rx len tx own (is_place len (tx_word own)) f in
    record {
      tx_is = started_tx len own f;
      rx_place = subst (λ r. IsTrue (is_place len r)) (sym stays) tests.0;
      holds =
          subst (λ r. Holds (slots len new) len r tx []) (sym stays) (
          subst (λ t. Holds (slots len new) len rx t []) same (holds-none (slots len new) len rx b));
    }

-- ---- a message that is accepted

pub clean_accepted : (len tx : ℕ) (untaken : List Message) (own : List ℕ) (m : Message) → Fits len own → IsTrue (is_place len tx)
    → IsTrue (fits (span len (rx_word own) tx) (length m.body)) → IsClean len tx untaken own
    → IsClean len (place_after len tx (room_of m)) (untaken ++ m ∷ []) (write_tx (place_after len tx (room_of m)) (write_slots len tx (spell m) own))
clean_accepted len tx untaken own m f at_tx test h =
    let s = f.sized in
    let most = f.most in
    let even = f.even in
    let rx = rx_word own in
    let p = place len rx h.rx_place in
    let q = place len tx at_tx in
    let below = q.below in
    let all = length-slots len own f in
    let free = holds-span (slots len own) len rx tx untaken all p h.holds in
    let less = fits_below (span len rx tx) (length m.body) test in
    let in_room = spell_in_room m in
    let next = place_after len tx (room_of m) in
    let next_below : next < len = (place_after_place len tx (room_of m) q even (room_even (length m.body)) (omega arith)).below in
    let ys = take (len - tx) (spell m) in
    let zs = drop (len - tx) (spell m) in
    let y = length-take (len - tx) (spell m) in
    let one = splice own (64 + tx) ys in
    let one_long : length one ≡ length own = length-splice own ys (64 + tx) (omega arith) in
    let two = write_slots len tx (spell m) own in
    let z = length-drop (len - tx) (spell m) in
    let two_long : length two ≡ length own = length-splice one zs 64 (omega arith) ∙ one_long in
    let new = write_tx next two in
    let rx_same : rx_word new ≡ rx =
    word_stays two (u32_bytes next) 4 0 (omega arith) (omega arith)
    ∙ word_stays one zs 64 0 (omega arith) (omega arith)
    ∙ word_stays own ys (64 + tx) 0 (omega arith) (omega arith) in
    let slots_same : slots len new ≡ written_round len (slots len own) tx (spell m) =
    ap (take len) (drop-splice_after two (u32_bytes next) 4 64 (omega arith) (omega arith))
    ∙ slots-write_slots own len tx (spell m) s below (omega arith) in
    record {
      tx_is = word_written two 4 next (omega arith) (omega arith);
      rx_place = subst (λ r. IsTrue (is_place len r)) (sym rx_same) h.rx_place;
      holds =
          subst (λ r. Holds (slots len new) len r next (untaken ++ m ∷ [])) (sym rx_same) (
          subst (λ x. Holds x len rx next (untaken ++ m ∷ [])) (sym slots_same) (
          holds_accepted (slots len own) len rx tx untaken m all p h.holds test));
    }

-- ---- puts

-- where so many bytes from one on touch neither a word nor a slot, there are none, or they are spare
spare_from : (len at n : ℕ) → 0 < len → IsFalse (touches len at n) → (n ≡ 0) ⊎ (((8 ≤ at) × (at + n ≤ 64)) ⊎ (64 + len ≤ at))
spare_from len at n some test =
    ⊎_elim inl
    (λ any. ⊎_elim
    (λ word. let t : touches len at n ≡ true = grind (arith, nat_tests) in absurd (false≢true (sym test ∙ t)))
    (λ behind. ⊎_elim
    (λ past. ⊎_elim
    (λ slot. let t : touches len at n ≡ true = grind (arith, nat_tests) in absurd (false≢true (sym test ∙ t)))
    (λ after. inr (inr after)) (cases_lt at (64 + len)))
    (λ spare. inr (inl (behind, spare))) (cases_lt 64 (at + n)))
    (cases_lt at 8))
    (cases_eq n 0)

-- a put that touches no word and no slot
pub clean_spared : (len tx : ℕ) (untaken : List Message) (own bytes : List ℕ) (at : ℕ) → Fits len own → at + length bytes ≤ length own
    → IsFalse (touches len at (length bytes)) → IsClean len tx untaken own → IsClean len tx untaken (splice own at bytes)
clean_spared len tx untaken own bytes at f inside test h =
    let s = f.sized in
    let l = f.least in
    ⊎_elim
    (λ none. let nil : bytes ≡ [] = nil_from_length bytes none in
    let same : splice own at bytes ≡ own = ap (splice own at) nil ∙ splice-nil own at in
    subst (IsClean len tx untaken) (sym same) h)
    (λ any. ⊎_elim
    (λ spare. let low = spare.0 in let high = spare.1 in
    kept len tx untaken own (splice own at bytes)
    (word_stays own bytes at 4 (omega arith) (omega arith))
    (word_stays own bytes at 0 (omega arith) (omega arith))
    (ap (take len) (drop-splice_after own bytes at 64 high (omega arith))) h)
    (λ past.
    kept len tx untaken own (splice own at bytes)
    (word_stays own bytes at 4 (omega arith) (omega arith))
    (word_stays own bytes at 0 (omega arith) (omega arith))
    (take-splice_before own bytes at 64 len (omega arith) (omega arith)) h)
    any)
    (spare_from len at (length bytes) (omega arith) test)

rooms_even : (ms : List Message) → rooms_of ms % 16 ≡ 0
rooms_even [] = refl
rooms_even (m ∷ ms) =
    let r = sum_by-cons room_of m ms in
    let a = room_even (length m.body) in
    let b = rooms_even ms in
    omega arith

-- a proper move, which takes the first messages
pub clean_moved : (len tx : ℕ) (untaken : List Message) (own bytes : List ℕ) (k : ℕ) → Fits len own → length bytes ≡ 4
    → taken_by len (rx_word own) untaken (u32_at bytes 0) ≡ Some k → IsClean len tx untaken own
    → IsClean len tx (drop k untaken) (splice own 0 bytes)
clean_moved len tx untaken own bytes k f four takes h =
    let s = f.sized in
    let rx = rx_word own in
    let p = place len rx h.rx_place in
    let new = splice own 0 bytes in
    let says = taken_by_says len rx untaken (u32_at bytes 0) k takes in
    let full = h.holds.leaves_room in
    let part = sum_by-take-le room_of untaken k in
    let rx_is : rx_word new ≡ place_after_first len rx untaken k = word_put own bytes 0 four (omega arith) ∙ sym says.1 in
    let slots_same : slots len new ≡ slots len own = ap (take len) (drop-splice_after own bytes 0 64 (omega arith) (omega arith)) in
    let next = place_after_place len rx (rooms_of (take k untaken)) p f.even (rooms_even (take k untaken)) (omega arith) in
    record {
      tx_is = word_stays_behind own bytes 0 4 (omega arith) (omega arith) ∙ h.tx_is;
      rx_place = subst (λ r. IsTrue (is_place len r)) (sym rx_is) (is_place_from len (place_after_first len rx untaken k) next);
      holds =
          subst (λ r. Holds (slots len new) len r tx (drop k untaken)) (sym rx_is) (
          subst (λ x. Holds x len (place_after_first len rx untaken k) tx (drop k untaken)) (sym slots_same) (
          holds_taken (slots len own) len rx tx untaken k p.below h.holds));
    }
