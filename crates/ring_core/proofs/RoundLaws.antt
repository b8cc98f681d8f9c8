-- Laws of slots that are read and written round the ring's end.
use Rattle.std.proofs.Common.{◌≡◌, ℕ, ◌+◌, ◌-◌, ◌<◌, ◌≤◌, List, ◌++◌, length, take, drop, [], ⊎_elim, sym, ap, ◌∙◌, append_assoc, arith, length-append, length-take, length-drop}
use Rattle.std.proofs.Math.Seq.{take-append-add, drop-append-add, take-append_seam, drop-append_seam}
use Rattle.std.proofs.lemmas.List.{take-append-le, drop-append-le, take-append-drop, length-take-le, take_all, drop_all}
use Rattle.std.proofs.lemmas.Bool.{cases_lt}
use Rattle.argo_base.specs.Slots.{place_after}
use Rattle.argo_base.specs.Splice.{splice}
use Rattle.argo_base.specs.Rounds.{written_round}
use Rattle.argo_base.proofs.SlotLaws.{place_after-short, place_after-long}
use Rattle.argo_base.proofs.SpliceLaws.{splice-nil, splice-append_left, splice-append_right, splice-append_seam, length-splice}
use Rattle.argo_model.specs.Rules.Holds.{bytes_from}

pub bytes_from_seam : (xs ys : List ℕ) → bytes_from (length xs) (xs ++ ys) ≡ ys ++ xs
bytes_from_seam xs ys = rw (drop-append_seam xs ys, take-append_seam xs ys)

-- going on from a place inside the second of two lists
bytes_from-append : (xs ys : List ℕ) (o : ℕ) → o ≤ length ys → bytes_from (length xs + o) (xs ++ ys) ≡ bytes_from o (ys ++ xs)
bytes_from-append xs ys o inside =
    let a = drop-append-add xs ys o in
    let b = take-append-add xs ys o in
    let c = drop-append-le o ys xs inside in
    let d = take-append-le o ys xs inside in
    rw (a, b, c, d) (simp append_assoc)

-- a ring's slots in two parts, of which the second is not empty: the place between them is where the reading begins
module _ (xs ys : List ℕ) (some : 0 < length ys) where
  place_between : (o : ℕ) → o < length xs + length ys
      → bytes_from (place_after (length xs + length ys) (length xs) o) (xs ++ ys) ≡ bytes_from o (ys ++ xs)
  place_between o inside =
      ⊎_elim
      (λ short. let p = place_after-short (length xs + length ys) (length xs) o (omega arith) in
      ap (λ t. bytes_from t (xs ++ ys)) p ∙ bytes_from-append xs ys o (omega arith))
      (λ long. let p = place_after-long (length xs + length ys) (length xs) o (omega arith) (omega arith) in
      let q : length xs + o - (length xs + length ys) ≡ o - length ys = omega arith in
      let r : length ys + (o - length ys) ≡ o = omega arith in
      ap (λ t. bytes_from t (xs ++ ys)) (p ∙ q)
      ∙ sym (bytes_from-append ys xs (o - length ys) (omega arith))
      ∙ ap (λ t. bytes_from t (ys ++ xs)) r)
      (cases_lt o (length ys))

  -- a write that ends before the ring's end, one that goes round it, and one that begins after it
  written_before : (o : ℕ) (bytes : List ℕ) → o + length bytes ≤ length ys
      → bytes_from (length xs) (written_round (length xs + length ys) (xs ++ ys) (length xs + o) bytes) ≡ splice (ys ++ xs) o bytes
  written_before o bytes inside =
      let n : length xs + length ys - (length xs + o) ≡ length ys - o = omega arith in
      let a : take (length ys - o) bytes ≡ bytes = take_all (length ys - o) bytes (omega arith) in
      let b : drop (length ys - o) bytes ≡ [] = drop_all (length ys - o) bytes (omega arith) in
      let c = splice-nil (splice (xs ++ ys) (length xs + o) bytes) 0 in
      let d = splice-append_right xs ys bytes o in
      let e : written_round (length xs + length ys) (xs ++ ys) (length xs + o) bytes ≡ xs ++ splice ys o bytes = rw (n, a, b) (c ∙ d) in
      ap (bytes_from (length xs)) e ∙ bytes_from_seam xs (splice ys o bytes) ∙ sym (splice-append_left ys xs bytes o inside)

  written_over : (o : ℕ) (bytes : List ℕ) → o ≤ length ys → length ys < o + length bytes → o + length bytes ≤ length xs + length ys
      → bytes_from (length xs) (written_round (length xs + length ys) (xs ++ ys) (length xs + o) bytes) ≡ splice (ys ++ xs) o bytes
  written_over o bytes before past inside =
      let n : length xs + length ys - (length xs + o) ≡ length ys - o = omega arith in
      let zs = take (length ys - o) bytes in
      let ws = drop (length ys - o) bytes in
      let z : length zs ≡ length ys - o = length-take-le (length ys - o) bytes (omega arith) in
      let w : length ws ≡ length bytes - (length ys - o) = length-drop (length ys - o) bytes in
      let d = splice-append_right xs ys zs o in
      let f = splice-append_left xs (splice ys o zs) ws 0 (omega arith) in
      let e : written_round (length xs + length ys) (xs ++ ys) (length xs + o) bytes ≡ splice xs 0 ws ++ splice ys o zs =
      rw n (ap (λ v. splice v 0 ws) d ∙ f) in
      let g : length (splice xs 0 ws) ≡ length xs = length-splice xs ws 0 (omega arith) in
      let h : bytes_from (length xs) (splice xs 0 ws ++ splice ys o zs) ≡ splice ys o zs ++ splice xs 0 ws =
      rw g at (bytes_from_seam (splice xs 0 ws) (splice ys o zs)) in
      ap (bytes_from (length xs)) e ∙ h ∙ sym (splice-append_seam ys xs zs ws o (omega arith))
      ∙ ap (splice (ys ++ xs) o) (take-append-drop (length ys - o) bytes)

  written_after : (p : ℕ) (bytes : List ℕ) → p + length bytes ≤ length xs
      → bytes_from (length xs) (written_round (length xs + length ys) (xs ++ ys) p bytes) ≡ splice (ys ++ xs) (length ys + p) bytes
  written_after p bytes inside =
      let a : take (length xs + length ys - p) bytes ≡ bytes = take_all (length xs + length ys - p) bytes (omega arith) in
      let b : drop (length xs + length ys - p) bytes ≡ [] = drop_all (length xs + length ys - p) bytes (omega arith) in
      let c = splice-nil (splice (xs ++ ys) p bytes) 0 in
      let d = splice-append_left xs ys bytes p inside in
      let e : written_round (length xs + length ys) (xs ++ ys) p bytes ≡ splice xs p bytes ++ ys = rw (a, b) (c ∙ d) in
      let g : length (splice xs p bytes) ≡ length xs = length-splice xs bytes p inside in
      let h : bytes_from (length xs) (splice xs p bytes ++ ys) ≡ ys ++ splice xs p bytes = rw g at (bytes_from_seam (splice xs p bytes) ys) in
      ap (bytes_from (length xs)) e ∙ h ∙ sym (splice-append_right ys xs bytes p)

  -- whatever the place, it is one write to the slots as they are read from the place between
  written_between : (o : ℕ) (bytes : List ℕ) → o < length xs + length ys → o + length bytes ≤ length xs + length ys
      → bytes_from (length xs) (written_round (length xs + length ys) (xs ++ ys) (place_after (length xs + length ys) (length xs) o) bytes)
      ≡ splice (ys ++ xs) o bytes
  written_between o bytes inside fit =
      ⊎_elim
      (λ short. let p = place_after-short (length xs + length ys) (length xs) o (omega arith) in
      ap (λ t. bytes_from (length xs) (written_round (length xs + length ys) (xs ++ ys) t bytes)) p
      ∙ ⊎_elim (λ over. written_over o bytes (omega arith) over fit) (λ before. written_before o bytes before) (cases_lt (length ys) (o + length bytes)))
      (λ long. let p = place_after-long (length xs + length ys) (length xs) o (omega arith) (omega arith) in
      let q : length xs + o - (length xs + length ys) ≡ o - length ys = omega arith in
      let r : length ys + (o - length ys) ≡ o = omega arith in
      ap (λ t. bytes_from (length xs) (written_round (length xs + length ys) (xs ++ ys) t bytes)) (p ∙ q)
      ∙ written_after (o - length ys) bytes (omega arith)
      ∙ ap (λ t. splice (ys ++ xs) t bytes) r)
      (cases_lt o (length ys))

-- slots of a length, read from a place of them on
module _ (len rx : ℕ) (slots : List ℕ) (all : length slots ≡ len) (below : rx < len) where
  front_is : length (take rx slots) ≡ rx
  front_is = length-take-le rx slots (omega arith)

  back_is : length (drop rx slots) ≡ len - rx
  back_is = length-drop rx slots ∙ omega arith

  whole_is : length (take rx slots) + length (drop rx slots) ≡ len
  whole_is = let a = front_is in let b = back_is in omega arith

  pub length-bytes_from : length (bytes_from rx slots) ≡ len
  length-bytes_from = simp (length-append, length-take, length-drop) (omega arith)

  -- what is read from a place so far behind the first
  pub bytes_from_place : (o : ℕ) → o < len → bytes_from (place_after len rx o) slots ≡ bytes_from o (bytes_from rx slots)
  bytes_from_place o inside =
      let a = front_is in
      let b = back_is in
      let e = place_between (take rx slots) (drop rx slots) (omega arith) o (omega arith) in
      rw (whole_is, front_is, take-append-drop rx slots) at e

  -- a write from such a place on
  pub bytes_from_written : (o : ℕ) (bytes : List ℕ) → o < len → o + length bytes ≤ len
      → bytes_from rx (written_round len slots (place_after len rx o) bytes) ≡ splice (bytes_from rx slots) o bytes
  bytes_from_written o bytes inside fit =
      let a = front_is in
      let b = back_is in
      let e = written_between (take rx slots) (drop rx slots) (omega arith) o bytes (omega arith) (omega arith) in
      rw (whole_is, front_is, take-append-drop rx slots) at e

-- a write keeps the length
pub length-written_round : (len : ℕ) (slots : List ℕ) (at : ℕ) (bytes : List ℕ) → length slots ≡ len → at ≤ len → length bytes ≤ len
    → length (written_round len slots at bytes) ≡ len
length-written_round len slots at bytes all below fit =
    let a = length-take (len - at) bytes in
    let b = length-drop (len - at) bytes in
    let c = length-splice slots (take (len - at) bytes) at (omega arith) in
    length-splice (splice slots at (take (len - at) bytes)) (drop (len - at) bytes) 0 (omega arith) ∙ c ∙ all
