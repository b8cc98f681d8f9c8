-- Laws of the pieces of a range.
use Rattle.std.proofs.Common.{◌≡◌, ℕ, zero, suc, ◌+◌, ◌-◌, ◌*◌, ◌/◌, ◌%◌, ◌<◌, ◌≤◌, min, max, [], ◌∷◌, map, ⊎_elim, refl, sym, ap, ◌∙◌, arith, length}
use Rattle.std.proofs.lemmas.List.{length-map}
use Rattle.std.proofs.lemmas.Bool.{cases_lt}
use Rattle.std.proofs.lemmas.Bool.Decides.{nat_tests}
use Rattle.std.specs.List.{range_with_len}
use Rattle.argo_base.specs.Pieces.{pieces, piece_in, pages_touched}

-- two functions that agree from a number on make the same list of a range from there
map_range : {A : Type 0} (f g : ℕ → A) (low : ℕ) → ((p : ℕ) → low ≤ p → f p ≡ g p) → (from n : ℕ) → low ≤ from → map f (range_with_len from n) ≡ map g (range_with_len from n)
map_range f g low same from zero above = refl
map_range f g low same from (suc n) above =
    ap (λ x. x ∷ map f (range_with_len (from + 1) n)) (same from above)
    ∙ ap (λ xs. g from ∷ xs) (map_range f g low same (from + 1) n (omega arith))

page_of : (page off : ℕ) → off < 4096 → (4096 * page + off) / 4096 ≡ page
page_of page off below = omega arith

off_of : (page off : ℕ) → off < 4096 → (4096 * page + off) % 4096 ≡ off
off_of page off below = omega arith

nothing_touched : (at : ℕ) → pages_touched at 0 ≡ 0
nothing_touched at = refl

touched : (page off n : ℕ) → off < 4096 → 0 < n → pages_touched (4096 * page + off) n ≡ (off + n + 4095) / 4096
touched page off n below some = rw off_of (grind (arith, nat_tests))

-- the range ends in its first page
one_page : (page off n : ℕ) → off < 4096 → 0 < n → n ≤ 4096 - off → pages_touched (4096 * page + off) n ≡ 1
one_page page off n below some short = touched page off n below some ∙ omega arith

-- the range goes on past its first page
one_page_more : (page off n : ℕ) → off < 4096 → 4096 - off < n → pages_touched (4096 * page + off) n ≡ suc (pages_touched (4096 * (page + 1) + 0) (n - (4096 - off)))
one_page_more page off n below long =
    let rest = touched (page + 1) 0 (n - (4096 - off)) (omega arith) (omega arith) in
    touched page off n below (omega arith) ∙ omega (arith, rest)

first_is : (page off n : ℕ) → off < 4096 → piece_in (4096 * page + off) n page ≡ record { page = page; off = off; n = min n (4096 - off) }
first_is page off n below =
    let at_off : max (4096 * page + off) (4096 * page) - 4096 * page ≡ off = omega arith in
    let size : min (4096 * page + off + n) (4096 * page + 4096) - max (4096 * page + off) (4096 * page) ≡ min n (4096 - off) = omega arith in
    ap (λ x. record { page = page; off = x; n = min (4096 * page + off + n) (4096 * page + 4096) - max (4096 * page + off) (4096 * page) }) at_off
    ∙ ap (λ x. record { page = page; off = off; n = x }) size

later_is : (page off n p : ℕ) → off < 4096 → 4096 - off < n → page + 1 ≤ p → piece_in (4096 * page + off) n p ≡ piece_in (4096 * (page + 1) + 0) (n - (4096 - off)) p
later_is page off n p below long above =
    let a : max (4096 * page + off) (4096 * p) ≡ 4096 * p = omega arith in
    let b : max (4096 * (page + 1) + 0) (4096 * p) ≡ 4096 * p = omega arith in
    let e : 4096 * page + off + n ≡ 4096 * (page + 1) + 0 + (n - (4096 - off)) = omega arith in
    ap (λ x. record { page = p; off = x - 4096 * p; n = min (4096 * page + off + n) (4096 * p + 4096) - x }) (a ∙ sym b)
    ∙ ap (λ x. record { page = p; off = max (4096 * (page + 1) + 0) (4096 * p) - 4096 * p; n = min x (4096 * p + 4096) - max (4096 * (page + 1) + 0) (4096 * p) }) e

-- a range that is not empty is its piece in the page where it begins, and then the pieces of the rest, from the next page on
pub pieces-first : (page off n : ℕ) → off < 4096 → 0 < n → pieces (4096 * page + off) n ≡ record { page = page; off = off; n = min n (4096 - off) } ∷ pieces (4096 * (page + 1) + 0) (n - min n (4096 - off))
pieces-first page off n below some = ⊎_elim (λ long.
    let k : min n (4096 - off) ≡ 4096 - off = omega arith in
    ap (λ q. map (piece_in (4096 * page + off) n) (range_with_len q (pages_touched (4096 * page + off) n))) (page_of page off below)
    ∙ ap (λ c. map (piece_in (4096 * page + off) n) (range_with_len page c)) (one_page_more page off n below long)
    ∙ ap (λ x. x ∷ map (piece_in (4096 * page + off) n) (range_with_len (page + 1) (pages_touched (4096 * (page + 1) + 0) (n - (4096 - off))))) (first_is page off n below)
    ∙ ap (λ xs. record { page = page; off = off; n = min n (4096 - off) } ∷ xs) (
    map_range (piece_in (4096 * page + off) n) (piece_in (4096 * (page + 1) + 0) (n - (4096 - off))) (page + 1) (λ p above. later_is page off n p below long above) (page + 1) _ (omega arith)
    ∙ ap (λ q. map (piece_in (4096 * (page + 1) + 0) (n - (4096 - off))) (range_with_len q (pages_touched (4096 * (page + 1) + 0) (n - (4096 - off))))) (sym (page_of (page + 1) 0 (omega arith)))
    ∙ ap (λ m. pieces (4096 * (page + 1) + 0) (n - m)) (sym k)))
    (λ short.
    let k : n - min n (4096 - off) ≡ 0 = omega arith in
    ap (λ q. map (piece_in (4096 * page + off) n) (range_with_len q (pages_touched (4096 * page + off) n))) (page_of page off below)
    ∙ ap (λ c. map (piece_in (4096 * page + off) n) (range_with_len page c)) (one_page page off n below some short)
    ∙ ap (λ x. x ∷ []) (first_is page off n below)
    ∙ ap (λ m. record { page = page; off = off; n = min n (4096 - off) } ∷ pieces (4096 * (page + 1) + 0) m) (sym k))
    (cases_lt (4096 - off) n)

length_range : (from n : ℕ) → length (range_with_len from n) ≡ n
length_range from zero = refl
length_range from (suc n) = ap suc (length_range (from + 1) n)

-- a range has as many pieces as it touches pages
pub length-pieces : (at n : ℕ) → length (pieces at n) ≡ pages_touched at n
length-pieces at n = length-map (range_with_len (at / 4096) (pages_touched at n)) (piece_in at n) ∙ length_range (at / 4096) (pages_touched at n)

-- a short range touches at most two
pub short_touches : (at n : ℕ) → n ≤ 64 → pages_touched at n ≤ 2
short_touches at n short = grind (arith, nat_tests)
