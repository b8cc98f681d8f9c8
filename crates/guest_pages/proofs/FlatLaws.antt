-- The pages of a row as one list of bytes.
use Rattle.std.proofs.Common.{◌≡◌, ℕ, zero, suc, ◌+◌, ◌*◌, ◌<◌, ◌≤◌, List, [], ◌∷◌, ◌++◌, length, take, drop, refl, sym, ap, ◌∙◌, arith, length-append, length-drop}
use Rattle.std.specs.List.{All}
use Rattle.std.proofs.Math.Seq.{drop-append-add, map-set_same}
use Rattle.std.proofs.lemmas.List.{take-append-le, drop-append-le}
use Rattle.std.proofs.lemmas.List.Elements.{All-head, All-tail}
use Rattle.argo_base.specs.Splice.{splice}
use Rattle.argo_base.proofs.SpliceLaws.{splice-append_left, splice-append_right}
use Rattle.guest_pages.specs.Rows.{numbers_of, row_bytes, page_in}
use Rattle.guest_pages.proofs.RowLaws.{with_bytes}

abbrev IsPage : ℕ × List ℕ → Type 0
IsPage p = length p.1 ≡ 4096

-- each page of a row has 4,096 bytes
pub length-row_bytes : (row : List (ℕ × List ℕ)) → All (λ p. length p.1 ≡ 4096) row → length (row_bytes row) ≡ 4096 * length row
length-row_bytes [] whole = refl
length-row_bytes (p ∷ ps) whole =
    length-append p.1 (row_bytes ps) ∙ omega (arith, All-head IsPage p ps whole, length-row_bytes ps (All-tail IsPage p ps whole))

-- a write into a page is one at its place among all bytes of the row
pub row_bytes-with_bytes : (row : List (ℕ × List ℕ)) (place off : ℕ) (zs : List ℕ) → All (λ p. length p.1 ≡ 4096) row → place < length row
    → off + length zs ≤ 4096
    → row_bytes (with_bytes row place (splice (page_in row place).1 off zs)) ≡ splice (row_bytes row) (4096 * place + off) zs
row_bytes-with_bytes [] place off zs whole inside short = absurd (omega arith)
row_bytes-with_bytes (p ∷ ps) zero off zs whole inside short =
    let n : length p.1 ≡ 4096 = All-head IsPage p ps whole in
    let e : off ≡ 4096 * 0 + off = omega arith in
    sym (splice-append_left p.1 (row_bytes ps) zs off (omega arith)) ∙ ap (λ k. splice (p.1 ++ row_bytes ps) k zs) e
row_bytes-with_bytes (p ∷ ps) (suc k) off zs whole inside short =
    let n : length p.1 ≡ 4096 = All-head IsPage p ps whole in
    let e : length p.1 + (4096 * k + off) ≡ 4096 * suc k + off = omega arith in
    ap (λ xs. p.1 ++ xs) (row_bytes-with_bytes ps k off zs (All-tail IsPage p ps whole) (omega arith) short)
    ∙ sym (splice-append_right p.1 (row_bytes ps) zs (4096 * k + off))
    ∙ ap (λ j. splice (p.1 ++ row_bytes ps) j zs) e

-- a read out of a page is one at its place among all bytes of the row
pub page-row_bytes : (row : List (ℕ × List ℕ)) (place off n : ℕ) → All (λ p. length p.1 ≡ 4096) row → place < length row → off + n ≤ 4096
    → take n (drop off (page_in row place).1) ≡ take n (drop (4096 * place + off) (row_bytes row))
page-row_bytes [] place off n whole inside short = absurd (omega arith)
page-row_bytes (p ∷ ps) zero off n whole inside short =
    let long : length p.1 ≡ 4096 = All-head IsPage p ps whole in
    let e : off ≡ 4096 * 0 + off = omega arith in
    sym (take-append-le n (drop off p.1) (row_bytes ps) (omega (arith, length-drop off p.1)))
    ∙ ap (take n) (sym (drop-append-le off p.1 (row_bytes ps) (omega arith)))
    ∙ ap (λ k. take n (drop k (p.1 ++ row_bytes ps))) e
page-row_bytes (p ∷ ps) (suc k) off n whole inside short =
    let long : length p.1 ≡ 4096 = All-head IsPage p ps whole in
    let e : length p.1 + (4096 * k + off) ≡ 4096 * suc k + off = omega arith in
    page-row_bytes ps k off n (All-tail IsPage p ps whole) (omega arith) short
    ∙ ap (take n) (sym (drop-append-add p.1 (row_bytes ps) (4096 * k + off)))
    ∙ ap (λ j. take n (drop j (p.1 ++ row_bytes ps))) e

-- a write keeps the numbers
pub numbers_of-with_bytes : (row : List (ℕ × List ℕ)) (place : ℕ) (bytes : List ℕ) → numbers_of (with_bytes row place bytes) ≡ numbers_of row
numbers_of-with_bytes row place bytes =
    map-set_same (λ (p : ℕ × List ℕ). p.0) row place ((page_in row place).0, bytes) (0, []) refl
