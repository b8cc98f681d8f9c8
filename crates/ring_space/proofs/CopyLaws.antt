-- Laws of copies round a ring's end, byte by byte.
use Rattle.std.proofs.Common.{◌≡◌, ℕ, zero, suc, ◌+◌, ◌-◌, ◌%◌, ◌<◌, ◌≤◌, List, [], ◌∷◌, ◌++◌, length, take, drop, refl, sym, ap, ◌∙◌, arith, min, ⊎_elim, length-take, length-drop}
use Rattle.std.specs.Prelude.{slice_get}
use Rattle.std.proofs.lemmas.Bool.{cases_lt}
use Rattle.std.proofs.lemmas.List.{length-take-le}
use Rattle.std.proofs.Math.Nat.{mod-eq_of_lt, add-mod_left}
use Rattle.argo_base.specs.Splice.{splice}
use Rattle.argo_base.proofs.SpliceLaws.{length-splice}
use Rattle.ring_space.specs.Copies.{byte_place, IsWritten, IsRead}
use Rattle.argo_base.specs.SlotBytes.{slots, bytes_from, write_slots}

-- ---- the byte at a place of a list

get-append_left : (xs ys : List ℕ) (n : ℕ) → n < length xs → slice_get (xs ++ ys) n ≡ slice_get xs n
get-append_left [] ys n l = absurd (omega (arith, l))
get-append_left (x ∷ xs) ys zero l = refl
get-append_left (x ∷ xs) ys (suc n) l = get-append_left xs ys n (omega (arith, l))

get-append_right : (xs ys : List ℕ) (n : ℕ) → slice_get (xs ++ ys) (length xs + n) ≡ slice_get ys n
get-append_right [] ys n = let e : 0 + n ≡ n = omega arith in ap (slice_get ys) e
get-append_right (x ∷ xs) ys n =
    let e : length (x ∷ xs) + n ≡ suc (length xs + n) = omega arith in
    ap (slice_get (x ∷ (xs ++ ys))) e ∙ get-append_right xs ys n

get-take : (k : ℕ) (xs : List ℕ) (n : ℕ) → n < k → slice_get (take k xs) n ≡ slice_get xs n
get-take zero xs n l = absurd (omega (arith, l))
get-take (suc k) [] n l = refl
get-take (suc k) (x ∷ xs) zero l = refl
get-take (suc k) (x ∷ xs) (suc n) l = get-take k xs n (omega (arith, l))

get-drop : (k : ℕ) (xs : List ℕ) (n : ℕ) → slice_get (drop k xs) n ≡ slice_get xs (k + n)
get-drop zero xs n = let e : 0 + n ≡ n = omega arith in ap (slice_get xs) (sym e)
get-drop (suc k) [] n = refl
get-drop (suc k) (x ∷ xs) n =
    let e : suc k + n ≡ suc (k + n) = omega arith in
    get-drop k xs n ∙ ap (slice_get (x ∷ xs)) (sym e)

-- ---- a write over a part of a list

get-splice_in : (xs ys : List ℕ) (at i : ℕ) → at ≤ length xs → i < length ys → slice_get (splice xs at ys) (at + i) ≡ slice_get ys i
get-splice_in xs ys at i inside below =
    let t : length (take at xs) ≡ at = length-take-le at xs inside in
    ap (λ k. slice_get (splice xs at ys) (k + i)) (sym t)
    ∙ get-append_right (take at xs) (ys ++ drop (at + length ys) xs) i
    ∙ get-append_left ys (drop (at + length ys) xs) i below

get-splice_before : (xs ys : List ℕ) (at j : ℕ) → at ≤ length xs → j < at → slice_get (splice xs at ys) j ≡ slice_get xs j
get-splice_before xs ys at j inside before =
    let t : length (take at xs) ≡ at = length-take-le at xs inside in
    get-append_left (take at xs) (ys ++ drop (at + length ys) xs) j (omega arith) ∙ get-take at xs j before

get-splice_after : (xs ys : List ℕ) (at j : ℕ) → at ≤ length xs → at + length ys ≤ j → slice_get (splice xs at ys) j ≡ slice_get xs j
get-splice_after xs ys at j inside after =
    let t : length (take at xs) ≡ at = length-take-le at xs inside in
    let k : at + (j - at) ≡ j = omega arith in
    let m : length ys + (j - at - length ys) ≡ j - at = omega arith in
    let n : at + length ys + (j - at - length ys) ≡ j = omega arith in
    ap (slice_get (splice xs at ys)) (sym k)
    ∙ ap (λ l. slice_get (splice xs at ys) (l + (j - at))) (sym t)
    ∙ get-append_right (take at xs) (ys ++ drop (at + length ys) xs) (j - at)
    ∙ ap (slice_get (ys ++ drop (at + length ys) xs)) (sym m)
    ∙ get-append_right ys (drop (at + length ys) xs) (j - at - length ys)
    ∙ get-drop (at + length ys) xs (j - at - length ys)
    ∙ ap (slice_get xs) n

-- ---- places round the ring's end

low_place : (len at i : ℕ) → at + i < len → byte_place len at i ≡ 64 + (at + i)
low_place len at i l = ap (λ n. 64 + n) (mod-eq_of_lt l)

high_place : (len at i k : ℕ) → at + i ≡ len + k → k < len → byte_place len at i ≡ 64 + k
high_place len at i k over l = ap (λ n. 64 + n) (ap (λ n. n % len) over ∙ add-mod_left len k ∙ mod-eq_of_lt l)

-- ---- a write, and a read

module _ (own : List ℕ) (len at : ℕ) (bytes : List ℕ) (inside : 64 + len ≤ length own) (below : at < len) (short : length bytes ≤ len) where
  abbrev first : List ℕ
  first = take (len - at) bytes

  abbrev rest : List ℕ
  rest = drop (len - at) bytes

  abbrev halfway : List ℕ
  halfway = splice own (64 + at) first

  first_long : length first ≡ min (len - at) (length bytes)
  first_long = length-take (len - at) bytes

  rest_long : length rest ≡ length bytes - (len - at)
  rest_long = length-drop (len - at) bytes

  halfway_long : length halfway ≡ length own
  halfway_long = length-splice own first (64 + at) (omega (arith, first_long))

  -- a byte up to the ring's end, and one behind it
  written_low : (i : ℕ) → i < length bytes → at + i < len → slice_get (write_slots len at bytes own) (byte_place len at i) ≡ slice_get bytes i
  written_low i l low =
      let e : 64 + (at + i) ≡ 64 + at + i = omega arith in
      ap (slice_get (splice halfway 64 rest)) (low_place len at i low ∙ e)
      ∙ get-splice_after halfway rest 64 (64 + at + i) (omega (arith, halfway_long)) (omega (arith, rest_long))
      ∙ get-splice_in own first (64 + at) i (omega arith) (omega (arith, first_long))
      ∙ get-take (len - at) bytes i (omega arith)

  written_high : (i : ℕ) → i < length bytes → len ≤ at + i → slice_get (write_slots len at bytes own) (byte_place len at i) ≡ slice_get bytes i
  written_high i l high =
      let k = i - (len - at) in
      let over : at + i ≡ len + k = omega arith in
      let back : len - at + k ≡ i = omega arith in
      ap (slice_get (splice halfway 64 rest)) (high_place len at i k over (omega arith))
      ∙ get-splice_in halfway rest 64 k (omega (arith, halfway_long)) (omega (arith, rest_long))
      ∙ get-drop (len - at) bytes k
      ∙ ap (slice_get bytes) back

  abbrev Off : ℕ → Type 0
  Off j = (i : ℕ) → i < length bytes → byte_place len at i ≡ j → ⊥

  -- a byte where none was written stays: first in the run up to the ring's end, and then in the other
  kept_first : (j : ℕ) → Off j → 64 + at ≤ j → slice_get halfway j ≡ slice_get own j
  kept_first j off from = ⊎_elim
      (λ within.
      let i = j - (64 + at) in
      let e : 64 + (at + i) ≡ j = omega arith in
      absurd (off i (omega (arith, within, first_long)) (low_place len at i (omega (arith, within, first_long)) ∙ e)))
      (get-splice_after own first (64 + at) j (omega arith))
      (cases_lt j (64 + at + length first))

  kept_halfway : (j : ℕ) → Off j → slice_get halfway j ≡ slice_get own j
  kept_halfway j off = ⊎_elim (get-splice_before own first (64 + at) j (omega arith)) (kept_first j off) (cases_lt j (64 + at))

  kept_rest : (j : ℕ) → Off j → 64 ≤ j → slice_get (splice halfway 64 rest) j ≡ slice_get halfway j
  kept_rest j off from = ⊎_elim
      (λ within.
      let k = j - 64 in
      let i = k + (len - at) in
      let over : at + i ≡ len + k = omega arith in
      let e : 64 + k ≡ j = omega arith in
      absurd (off i (omega (arith, within, rest_long)) (high_place len at i k over (omega (arith, within, rest_long)) ∙ e)))
      (get-splice_after halfway rest 64 j (omega (arith, halfway_long)))
      (cases_lt j (64 + length rest))

  kept : (j : ℕ) → Off j → slice_get (write_slots len at bytes own) j ≡ slice_get own j
  kept j off =
      ⊎_elim (get-splice_before halfway rest 64 j (omega (arith, halfway_long))) (kept_rest j off) (cases_lt j 64)
      ∙ kept_halfway j off

  -- a write round the ring's end is the copy byte by byte
  pub is_written : IsWritten len at bytes own (write_slots len at bytes own)
  is_written = record {
    written = λ i l. ⊎_elim (written_low i l) (written_high i l) (cases_lt (at + i) len);
    kept = kept;
  }

module _ (own : List ℕ) (len at n : ℕ) (inside : 64 + len ≤ length own) (below : at < len) (short : n ≤ len) where
  slots_long : length (slots len own) ≡ len
  slots_long = length-take-le len (drop 64 own) (omega (arith, length-drop 64 own))

  tail_long : length (drop at (slots len own)) ≡ len - at
  tail_long = length-drop at (slots len own) ∙ ap (λ k. k - at) slots_long

  slot_at : (k : ℕ) → k < len → slice_get (slots len own) k ≡ slice_get own (64 + k)
  slot_at k l = get-take len (drop 64 own) k l ∙ get-drop 64 own k

  read_low : (i : ℕ) → at + i < len → slice_get (bytes_from at (slots len own)) i ≡ slice_get own (byte_place len at i)
  read_low i low =
      get-append_left (drop at (slots len own)) (take at (slots len own)) i (omega (arith, tail_long))
      ∙ get-drop at (slots len own) i
      ∙ slot_at (at + i) low
      ∙ ap (slice_get own) (sym (low_place len at i low))

  read_high : (i : ℕ) → i < len → len ≤ at + i → slice_get (bytes_from at (slots len own)) i ≡ slice_get own (byte_place len at i)
  read_high i l high =
      let k = i - (len - at) in
      let over : at + i ≡ len + k = omega arith in
      let split : i ≡ length (drop at (slots len own)) + k = omega (arith, tail_long) in
      ap (slice_get (bytes_from at (slots len own))) split
      ∙ get-append_right (drop at (slots len own)) (take at (slots len own)) k
      ∙ get-take at (slots len own) k (omega arith)
      ∙ slot_at k (omega arith)
      ∙ ap (slice_get own) (sym (high_place len at i k over (omega arith)))

  -- and so is a read
  pub is_read : IsRead len at (take n (bytes_from at (slots len own))) own
  is_read i l =
      let few : i < n = omega (arith, length-take n (bytes_from at (slots len own))) in
      get-take n (bytes_from at (slots len own)) i few
      ∙ ⊎_elim (read_low i) (read_high i (omega arith)) (cases_lt (at + i) len)
