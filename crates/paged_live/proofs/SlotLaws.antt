-- The slots of a ring, out of its pages one after another.
use Rattle.std.proofs.Common.{◌≡◌, ℕ, zero, suc, ◌-◌, ◌<◌, List, [], ◌∷◌, ◌++◌, length, take, drop, sym, ap, ◌∙◌, arith}
use Rattle.std.proofs.lemmas.List.{append-nil, append_assoc, length-take}
use Rattle.guest_pages.specs.Rows.{row_bytes, page_in}

-- the bytes of one page more
pub row_more : (row : List (ℕ × List ℕ)) (k : ℕ) → k < length row → row_bytes (take (suc k) row) ≡ row_bytes (take k row) ++ (page_in row k).1
row_more [] k inside = absurd (omega (arith, inside))
row_more (p ∷ ps) zero inside = append-nil p.1
row_more (p ∷ ps) (suc k) inside = ap (λ xs. p.1 ++ xs) (row_more ps k (omega (arith, inside))) ∙ sym (append_assoc p.1 (row_bytes (take k ps)) (page_in ps k).1)

drop-append : (n : ℕ) (xs ys : List ℕ) → drop n (xs ++ ys) ≡ drop n xs ++ drop (n - length xs) ys
drop-append zero xs ys =
    let e : zero - length xs ≡ zero = omega arith in
    ap (λ k. xs ++ drop k ys) (sym e)
drop-append (suc n) [] ys =
    let e : suc n - zero ≡ suc n = omega arith in
    ap (λ k. drop k ys) (sym e)
drop-append (suc n) (x ∷ xs) ys =
    let e : suc n - suc (length xs) ≡ n - length xs = omega arith in
    drop-append n xs ys ∙ ap (λ k. drop n xs ++ drop k ys) (sym e)

take-append : (n : ℕ) (xs ys : List ℕ) → take n (xs ++ ys) ≡ take n xs ++ take (n - length xs) ys
take-append zero xs ys =
    let e : zero - length xs ≡ zero = omega arith in
    ap (λ k. take k ys) (sym e)
take-append (suc n) [] ys =
    let e : suc n - zero ≡ suc n = omega arith in
    ap (λ k. take k ys) (sym e)
take-append (suc n) (x ∷ xs) ys =
    let e : suc n - suc (length xs) ≡ n - length xs = omega arith in
    ap (λ zs. x ∷ zs) (take-append n xs ys ∙ ap (λ k. take n xs ++ take k ys) (sym e))

-- the slots in one page more: what follows the header, as far as there are slots
pub slots_more : (own page : List ℕ) (len : ℕ)
    → take len (drop 64 own) ++ take (len - length (take len (drop 64 own))) (drop (64 - length own) page) ≡ take len (drop 64 (own ++ page))
slots_more own page len =
    let xs = drop 64 own in
    let e : len - length xs ≡ len - length (take len xs) = omega (arith, length-take len xs) in
    sym
    (ap (take len) (drop-append 64 own page)
    ∙ take-append len xs (drop (64 - length own) page)
    ∙ ap (λ n. take len xs ++ take n (drop (64 - length own) page)) e
    )
