-- Laws of a ring with its own bytes: what a put of its owner, and a start, leave of what it holds.
use Rattle.std.proofs.Common.{◌≡◌, ℕ, zero, suc, ◌+◌, ◌%◌, ◌<◌, ◌≤◌, ◌⊎◌, min, max, Bool, true, false, ◌&&◌, ◌==◌, cond, if◌then◌else◌, IsTrue, List, [], ◌∷◌, length, take, drop, find, Option, Some, None, ⊎_elim, inl, inr, refl, sym, ap, ◌∙◌, subst, arith}
use Rattle.std.specs.List.{range_with_len}
use Rattle.std.proofs.lemmas.List.Sums.{sum_by-cons, sum_by-take-le}
use Rattle.std.proofs.lemmas.Nat.{from_le_bytes-to_le_bytes_4}
use Rattle.std.proofs.lemmas.Bool.{cases_lt, and_parts, or_parts}
use Rattle.std.proofs.lemmas.Bool.Decides.{nat_tests}
use Rattle.argo_base.specs.declared.message.Message.{Message}
use Rattle.argo_base.specs.Layout.{u32_at, u32_bytes}
use Rattle.argo_base.specs.Slots.{is_place, place_after, sanitised}
use Rattle.argo_base.specs.Splice.{splice}
use Rattle.argo_base.proofs.SpliceLaws.{splice-nil, length-splice}
use Rattle.argo_base.proofs.SlotLaws.{IsLegal, IsPlace, place, is_place_from, place_after_place, sanitised_place, room_even}
use Rattle.argo_model.specs.Rules.State.{Ring}
use Rattle.argo_model.specs.Rules.Holds.{HoldsFrom}
use Rattle.argo_model.specs.Rules.Messages.{room_of}
use Rattle.argo_model.specs.Rules.Puts.{meets, touches, place_after_first, taken_by, moves, clean_after, ring_after_put, dirtied}
use Rattle.argo_model.specs.Rules.RingBytes.{rx_word, tx_word, slots, write_tx}
use Rattle.argo_model.specs.Rules.Starts.{start_place, starts_clean, started_ring, bytes_after_start}
use Rattle.state_laws.specs.Valid.{IsHeld, KeepsUntaken}
use Rattle.state_laws.proofs.Holding.{rooms, taken, rooms-drop}
use Rattle.state_laws.proofs.Own.{word_before, word_behind, word_here, slots_behind, slots_before, held_same, length-u32}

-- ---- a put that moves

-- what a search among the first numbers finds
find_below : (test : ℕ → Bool) (a n k : ℕ) → find test (range_with_len a n) ≡ Some k → (test k ≡ true) × (k < a + n)
find_below test a zero k found = cc
find_below test a (suc n) k found = by (test a) refl found (find_below test (a + 1) n k) where
  by : (b : Bool) → test a ≡ b → cond b (Some a) (find test (range_with_len (a + 1) n)) ≡ Some k
      → (find test (range_with_len (a + 1) n) ≡ Some k → (test k ≡ true) × (k < a + 1 + n)) → (test k ≡ true) × (k < a + suc n)
  by true is found rest = let e : a ≡ k = cc in (subst (λ j. test j ≡ true) e is, omega arith)
  by false is found rest = let h = rest found in (h.0, omega (arith, h.1))

-- what a proper move by k messages is: at the rx word, of its four bytes, to the place behind them
pub record IsMove (r : Ring) (own : List ℕ) (at : ℕ) (bytes : List ℕ) (k : ℕ) : Type 0 where
  pub clean : r.clean ≡ true
  pub at_rx : at ≡ 0
  pub of_word : length bytes ≡ 4
  pub few : k ≤ length r.untaken
  pub to : place_after r.len (rx_word own) (rooms (take k r.untaken)) ≡ u32_at bytes 0

eqb_is : (a b : ℕ) → (a == b) ≡ true → a ≡ b
eqb_is a b h = grind (arith, nat_tests)

pub is_move : (r : Ring) (own : List ℕ) (at : ℕ) (bytes : List ℕ) (k : ℕ) → moves (record { ring = r; own = own }) at bytes ≡ Some k → IsMove r own at bytes k
is_move r own at bytes k found = by (r.clean && (at == 0) && (length bytes == 4)) refl found where
  by : (b : Bool) → (r.clean && (at == 0) && (length bytes == 4)) ≡ b → cond b (taken_by r.len (rx_word own) r.untaken (u32_at bytes 0)) None ≡ Some k → IsMove r own at bytes k
  by false is found = cc
  by true is found =
      let a = and_parts (r.clean && (at == 0)) (length bytes == 4) is in
      let b = and_parts r.clean (at == 0) a.0 in
      let h = find_below (λ j. place_after_first r.len (rx_word own) r.untaken j == u32_at bytes 0) 0 (length r.untaken + 1) k found in
      record {
        clean = b.0;
        at_rx = eqb_is at 0 b.1;
        of_word = eqb_is (length bytes) 4 a.1;
        few = omega (arith, h.1);
        to = eqb_is (place_after_first r.len (rx_word own) r.untaken k) (u32_at bytes 0) h.0;
      }

rooms_even : (ms : List Message) → rooms ms % 16 ≡ 0
rooms_even [] = refl
rooms_even (m ∷ ms) = let a = room_even (length m.body) in let b = rooms_even ms in let c = sum_by-cons room_of m ms in omega arith

pub held_moved : (r : Ring) (own : List ℕ) (at : ℕ) (bytes : List ℕ) (k : ℕ) → IsLegal r.len → 64 + r.len ≤ length own → IsMove r own at bytes k
    → IsHeld own r → IsHeld (splice own at bytes) (record r { untaken = drop k r.untaken })
held_moved r own at bytes k l sized m h =
    subst (λ a. IsHeld (splice own a bytes) (record r { untaken = drop k r.untaken })) (sym m.at_rx) moved where
      b : rx_word (splice own 0 bytes) ≡ u32_at bytes 0
      b = word_here own bytes 0 (omega arith) m.of_word

      rx : IsPlace r.len (rx_word own)
      rx = place r.len (rx_word own) h.rx_is_place

      to : rx_word (splice own 0 bytes) ≡ place_after r.len (rx_word own) (rooms (take k r.untaken))
      to = b ∙ sym m.to

      less : rooms r.untaken < r.len
      less = h.holds.leaves_room

      there : IsPlace r.len (rx_word (splice own 0 bytes))
      there =
          let some = sum_by-take-le room_of r.untaken k in
          subst (IsPlace r.len) (sym to) (place_after_place r.len (rx_word own) (rooms (take k r.untaken)) rx l.even (rooms_even (take k r.untaken)) (omega (arith, less)))

      same : slots r.len (splice own 0 bytes) ≡ slots r.len own
      same = let f = m.of_word in slots_behind own bytes 0 (omega arith) r.len (omega arith)

      moved : IsHeld (splice own 0 bytes) (record r { untaken = drop k r.untaken })
      moved =
          record {
            rx_is_place = is_place_from r.len (rx_word (splice own 0 bytes)) there;
            tx_is_word = (let f = m.of_word in word_behind own bytes 0 (omega arith) 4 (omega arith)) ∙ h.tx_is_word;
            holds = record {
              leaves_room = let d = rooms-drop k r.untaken in omega (arith, less);
              spelled =
                  subst (λ s. HoldsFrom s r.len (rx_word (splice own 0 bytes)) r.tx (drop k r.untaken)) (sym same)
                  (subst (λ x. HoldsFrom (slots r.len own) r.len x r.tx (drop k r.untaken)) (sym to)
                  (taken (slots r.len own) r.len (rx_word own) r.tx k r.untaken rx.below h.holds.spelled));
            };
          }

-- ---- a put that touches nothing

apart_from : (from to low high : ℕ) → meets from to low high ≡ false → min to high ≤ max from low
apart_from from to low high h = grind (arith, nat_tests)

pub held_untouched : (r : Ring) (own : List ℕ) (at : ℕ) (bytes : List ℕ) → 64 + r.len ≤ length own → at + length bytes ≤ length own → touches r.len at (length bytes) ≡ false
    → 48 ≤ r.len → IsHeld own r → IsHeld (splice own at bytes) r
held_untouched r own at bytes sized inside clear long h =
    ⊎_elim (λ some. held_same own (splice own at bytes) r (word_behind_or 0 some (omega arith)) (word_behind_or 4 some (omega arith)) (slots_same some) h)
    (λ none. subst (λ o. IsHeld o r) (sym (nothing (splice_is none))) h) (cases_lt 0 (length bytes)) where
      parts : (meets at (at + length bytes) 0 8 ≡ false) × (meets at (at + length bytes) 64 (64 + r.len) ≡ false)
      parts = or_parts (meets at (at + length bytes) 0 8) (meets at (at + length bytes) 64 (64 + r.len)) clear

      words : min (at + length bytes) 8 ≤ max at 0
      words = apart_from at (at + length bytes) 0 8 parts.0

      slot : min (at + length bytes) (64 + r.len) ≤ max at 64
      slot = apart_from at (at + length bytes) 64 (64 + r.len) parts.1

      word_behind_or : (off : ℕ) → 0 < length bytes → off + 4 ≤ 8 → u32_at (splice own at bytes) off ≡ u32_at own off
      word_behind_or off some in_words = let w = words in word_before own bytes at (omega arith) off (omega arith)

      slots_same : 0 < length bytes → slots r.len (splice own at bytes) ≡ slots r.len own
      slots_same some =
          let w = slot in
          ⊎_elim (λ before. slots_behind own bytes at (omega arith) r.len before)
          (λ (behind : 64 + r.len ≤ at). slots_before own bytes at (omega arith) r.len behind) sides where
            sides : (at + length bytes ≤ 64) ⊎ (64 + r.len ≤ at)
            sides = ⊎_elim (λ less. inr (omega (arith, slot))) (λ more. inl more) (cases_lt 64 (at + length bytes))

      splice_is : length bytes ≤ 0 → length bytes ≡ 0
      splice_is none = omega arith

      nothing : length bytes ≡ 0 → splice own at bytes ≡ own
      nothing none = ap (splice own at) (empty bytes none) ∙ splice-nil own at where
        empty : (bs : List ℕ) → length bs ≡ 0 → bs ≡ []
        empty [] none = refl
        empty (x ∷ xs) none = absurd (omega arith)

-- what a put leaves of a ring
pub kept_put : (r : Ring) (own : List ℕ) (at : ℕ) (bytes : List ℕ) → IsLegal r.len → 64 + r.len ≤ length own → at + length bytes ≤ length own → KeepsUntaken r.clean own r
    → KeepsUntaken (ring_after_put (record { ring = r; own = own }) at bytes).clean (splice own at bytes) (ring_after_put (record { ring = r; own = own }) at bytes)
kept_put r own at bytes l sized inside kept = by r.clean refl kept where
  moved : (o : Option ℕ) → moves (record { ring = r; own = own }) at bytes ≡ o → r.clean ≡ true → IsHeld own r
      → KeepsUntaken (clean_after r at (length bytes) o).clean (splice own at bytes) (clean_after r at (length bytes) o)
  moved (Some k) is clean h = subst (λ b. KeepsUntaken b (splice own at bytes) (record r { untaken = drop k r.untaken })) (sym clean)
      (held_moved r own at bytes k l sized (is_move r own at bytes k is) h)
  moved None is clean h = touched (touches r.len at (length bytes)) refl where
    touched : (b : Bool) → touches r.len at (length bytes) ≡ b → KeepsUntaken (if b then dirtied r else r).clean (splice own at bytes) (if b then dirtied r else r)
    touched true is = refl
    touched false is = subst (λ b. KeepsUntaken b (splice own at bytes) r) (sym clean) (let g = l.least in held_untouched r own at bytes sized inside is g h)

  by : (b : Bool) → r.clean ≡ b → KeepsUntaken b own r
      → KeepsUntaken (if b then clean_after r at (length bytes) (moves (record { ring = r; own = own }) at bytes) else r).clean (splice own at bytes)
      (if b then clean_after r at (length bytes) (moves (record { ring = r; own = own }) at bytes) else r)
  by true clean h = moved (moves (record { ring = r; own = own }) at bytes) refl clean h
  by false dirty h = subst (λ b. KeepsUntaken b (splice own at bytes) r) (sym dirty) h

-- ---- a start

module _ (r : Ring) (own : List ℕ) (l : IsLegal r.len) (sized : 64 + r.len ≤ length own) where
  abbrev start : ℕ
  start = start_place r.len (rx_word own) (tx_word own)

  pub start_is_place : IsTrue (is_place r.len start)
  start_is_place = by (is_place r.len (tx_word own)) refl where
    by : (b : Bool) → is_place r.len (tx_word own) ≡ b → IsTrue (is_place r.len (if b then tx_word own else sanitised r.len (rx_word own)))
    by true is = is
    by false is = let g = l.least in is_place_from r.len (sanitised r.len (rx_word own)) (sanitised_place r.len (rx_word own) (omega arith))

  pub length-bytes_after_start : length (bytes_after_start own r) ≡ length own
  length-bytes_after_start = by (is_place r.len (tx_word own)) where
    by : (b : Bool) → length (if b then own else write_tx start own) ≡ length own
    by true = refl
    by false = length-splice own (u32_bytes start) 4 (omega (arith, length-u32 start))

  pub start_rx : rx_word (bytes_after_start own r) ≡ rx_word own
  start_rx = by (is_place r.len (tx_word own)) where
    by : (b : Bool) → rx_word (if b then own else write_tx start own) ≡ rx_word own
    by true = refl
    by false = word_before own (u32_bytes start) 4 (omega arith) 0 (omega arith)

  pub start_tx : tx_word (bytes_after_start own r) ≡ start
  start_tx = by (is_place r.len (tx_word own)) refl where
    by : (b : Bool) → is_place r.len (tx_word own) ≡ b → tx_word (if b then own else write_tx start own) ≡ start
    by true is = ap (λ (b : Bool). if b then tx_word own else sanitised r.len (rx_word own)) (sym is)
    by false is =
        let b = (place r.len start start_is_place).below in
        let most = l.most in
        word_here own (u32_bytes start) 4 (omega arith) (length-u32 start) ∙ from_le_bytes-to_le_bytes_4 start (omega arith)

  -- a ring that starts clean holds nothing
  pub kept_start : KeepsUntaken (started_ring own r).clean (bytes_after_start own r) (started_ring own r)
  kept_start = by (starts_clean r.len (rx_word own) (tx_word own)) refl where
    by : (b : Bool) → starts_clean r.len (rx_word own) (tx_word own) ≡ b → KeepsUntaken b (bytes_after_start own r) (started_ring own r)
    by false is = refl
    by true is =
        let h = and_parts (is_place r.len (rx_word own)) (rx_word own == start) is in
        let g = l.least in
        record {
          rx_is_place = subst (λ x. IsTrue (is_place r.len x)) (sym start_rx) h.0;
          tx_is_word = start_tx;
          holds = record { leaves_room = omega arith; spelled = start_rx ∙ eqb_is (rx_word own) start h.1 };
        }
