-- Laws of copies between bytes and the slots of a ring.
use Rattle.std.proofs.Common.{◌≡◌, ℕ, ◌+◌, ◌-◌, ◌*◌, ◌/◌, ◌%◌, ◌<◌, ◌≤◌, min, List, ◌++◌, length, take, drop, sym, ap, ◌∙◌, arith, ⊎_elim, length-take, length-drop}
use Rattle.std.proofs.lemmas.Bool.{cases_lt}
use Rattle.std.proofs.lemmas.List.{append-nil, take-append-drop, take-append-le, take_all, drop_all, drop-drop, drop-take, take-take, length-take-le, length-map}
use Rattle.std.proofs.Math.Seq.{take-append-add}
use Rattle.argo_base.specs.Limits.{page_bytes}
use Rattle.argo_base.specs.Rounds.{written_round}
use Rattle.argo_base.specs.Splice.{splice}
use Rattle.argo_base.proofs.SpliceLaws.{splice-splice, length-splice, part-splice}
use Rattle.guest_pages.specs.Rows.{numbers_of, row_bytes}
use Rattle.argo_base.specs.SlotBytes.{slots, bytes_from, write_slots}

-- ---- bytes are written page by page

-- what the rest will make of the row is what all the bytes make of the row that was
pub record IsWriting (start row : List (ℕ × List ℕ)) (from at : ℕ) (bytes rest : List ℕ) : Type 0 where
  pub numbers : numbers_of row ≡ numbers_of start
  pub sum : at + length rest ≡ from + length bytes
  pub so_far : splice (row_bytes row) at rest ≡ splice (row_bytes start) from bytes

-- the count of the pages stays with their numbers
pub count_stays : (start row : List (ℕ × List ℕ)) → numbers_of row ≡ numbers_of start → length row ≡ length start
count_stays start row numbers =
    sym (length-map row (λ p. p.0)) ∙ ap length numbers ∙ length-map start (λ p. p.0)

pub writing_step : (start row row' : List (ℕ × List ℕ)) (from at n : ℕ) (bytes rest part later : List ℕ) → IsWriting start row from at bytes rest
    → from + length bytes ≤ page_bytes * length start → length (row_bytes row) ≡ page_bytes * length row
    → numbers_of row' ≡ numbers_of row → row_bytes row' ≡ splice (row_bytes row) (page_bytes * (at / 4096) + at % 4096) part
    → n ≤ length rest → part ≡ take n rest → later ≡ drop n rest → IsWriting start row' from (at + n) bytes later
writing_step start row row' from at n bytes rest part later so inside whole numbers bytes_so short p q =
    let count : length row ≡ length start = count_stays start row so.numbers in
    let place : page_bytes * (at / 4096) + at % 4096 ≡ at = omega arith in
    let part_long : length part ≡ n = ap length p ∙ length-take-le n rest short in
    let later_long : length later ≡ length rest - n = ap length q ∙ length-drop n rest in
    let joined : part ++ later ≡ rest = ap (λ x. x ++ later) p ∙ ap (λ x. take n rest ++ x) q ∙ take-append-drop n rest in
    record {
      numbers = numbers ∙ so.numbers;
      sum = omega (arith, so.sum);
      so_far =
          ap (λ x. splice x (at + n) later) (bytes_so ∙ ap (λ k. splice (row_bytes row) k part) place)
          ∙ ap (λ k. splice (splice (row_bytes row) at part) (at + k) later) (sym part_long)
          ∙ splice-splice (row_bytes row) part later at (omega (arith, so.sum))
          ∙ ap (λ x. splice (row_bytes row) at x) joined
          ∙ so.so_far;
    }

-- ---- bytes are read page by page

pub record IsReading (all : List ℕ) (from done : ℕ) (init buf : List ℕ) : Type 0 where
  pub long : length buf ≡ length init
  pub within : done ≤ length buf
  pub so_far : take done buf ≡ take done (drop from all)

-- ---- round the ring's end

-- a number of bytes is cut at the count that there are
cut_front : (n k : ℕ) (xs : List ℕ) → n ≡ min (length xs) k → take n xs ≡ take k xs
cut_front n k xs is =
    ⊎_elim (λ few. let e : n ≡ length xs = omega (arith, is) in take_all n xs (omega arith) ∙ sym (take_all k xs (omega arith)))
    (λ enough. let e : n ≡ k = omega (arith, is) in ap (λ j. take j xs) e)
    (cases_lt (length xs) k)

cut_back : (n k : ℕ) (xs : List ℕ) → n ≡ min (length xs) k → drop n xs ≡ drop k xs
cut_back n k xs is =
    ⊎_elim (λ few. let e : n ≡ length xs = omega (arith, is) in drop_all n xs (omega arith) ∙ sym (drop_all k xs (omega arith)))
    (λ enough. let e : n ≡ k = omega (arith, is) in ap (λ j. drop j xs) e)
    (cases_lt (length xs) k)

-- two writes are the write round the ring's end
pub written_run : (own own1 own2 : List ℕ) (len at n : ℕ) (bytes first rest : List ℕ) → n ≡ min (length bytes) (len - at) → first ≡ take n bytes
    → rest ≡ drop n bytes → own1 ≡ splice own (64 + at) first → own2 ≡ splice own1 64 rest → own2 ≡ write_slots len at bytes own
written_run own own1 own2 len at n bytes first rest is f r a b =
    b
    ∙ ap (λ x. splice x 64 rest) (a ∙ ap (λ x. splice own (64 + at) x) (f ∙ cut_front n (len - at) bytes is))
    ∙ ap (λ x. splice (splice own (64 + at) (take (len - at) bytes)) 64 x) (r ∙ cut_back n (len - at) bytes is)

-- the slots have the bytes round their end
pub slots-write_slots : (own : List ℕ) (len at : ℕ) (bytes : List ℕ) → 64 + len ≤ length own → at < len → length bytes ≤ len
    → slots len (write_slots len at bytes own) ≡ written_round len (slots len own) at bytes
slots-write_slots own len at bytes inside below short =
    let first = take (len - at) bytes in
    let rest = drop (len - at) bytes in
    let f : length first ≤ len - at = omega (arith, length-take (len - at) bytes) in
    let r : length rest ≤ len = omega (arith, length-drop (len - at) bytes) in
    let own1 = splice own (64 + at) first in
    let long : length own1 ≡ length own = length-splice own first (64 + at) (omega arith) in
    part-splice own1 rest 64 len 0 (omega arith) (omega arith)
    ∙ ap (λ s. splice s 0 rest) (part-splice own first 64 len at (omega arith) (omega arith))

-- the slots from a place up to their end
to_end : (own : List ℕ) (len at : ℕ) → at ≤ len → drop at (slots len own) ≡ take (len - at) (drop (64 + at) own)
to_end own len at within =
    let e : len ≡ at + (len - at) = omega arith in
    ap (λ j. drop at (take j (drop 64 own))) e ∙ drop-take at (len - at) (drop 64 own) ∙ ap (take (len - at)) (drop-drop at 64 own)

-- two reads are the read round the ring's end
pub read_round : (own : List ℕ) (len at n k : ℕ) → k ≡ min n (len - at) → 64 + len ≤ length own → at < len → n ≤ len
    → take k (drop (64 + at) own) ++ take (n - k) (drop 64 own) ≡ take n (bytes_from at (slots len own))
read_round own len at n k is inside below short =
    let end = to_end own len at (omega arith) in
    let s : length (slots len own) ≡ len = length-take-le len (drop 64 own) (omega (arith, length-drop 64 own)) in
    let d : length (drop at (slots len own)) ≡ len - at = length-drop at (slots len own) ∙ omega arith in
    ⊎_elim
    (λ over.
    let e : k ≡ len - at = omega (arith, is) in
    let m : n ≡ length (drop at (slots len own)) + (n - k) = omega arith in
    ap (λ x. take x (drop (64 + at) own) ++ take (n - k) (drop 64 own)) e
    ∙ ap (λ x. x ++ take (n - k) (drop 64 own)) (sym end)
    ∙ ap (λ x. drop at (slots len own) ++ x) (sym (take-take (n - k) at (slots len own) (omega arith) ∙ take-take (n - k) len (drop 64 own) (omega arith)))
    ∙ sym (take-append-add (drop at (slots len own)) (take at (slots len own)) (n - k))
    ∙ ap (λ j. take j (bytes_from at (slots len own))) (sym m))
    (λ within.
    let e : k ≡ n = omega (arith, is) in
    let z : n - k ≡ 0 = omega arith in
    ap (λ x. take k (drop (64 + at) own) ++ take x (drop 64 own)) z
    ∙ append-nil (take k (drop (64 + at) own))
    ∙ ap (λ x. take x (drop (64 + at) own)) e
    ∙ sym (take-take n (len - at) (drop (64 + at) own) within)
    ∙ ap (take n) (sym end)
    ∙ sym (take-append-le n (drop at (slots len own)) (take at (slots len own)) (omega arith)))
    (cases_lt (len - at) n)
