-- Laws of all the pieces of a range.
use Rattle.std.proofs.Common.{◌≡◌, ℕ, zero, suc, ◌+◌, ◌-◌, ◌*◌, ◌/◌, ◌%◌, ◌<◌, ◌≤◌, min, List, ◌∷◌, Some, slice_get, All, sum_by, refl, sym, ap, ◌∙◌, arith, subst}
use Rattle.std.proofs.lemmas.List.Sums.{sum_by-cons}
use Rattle.std.proofs.lemmas.List.Elements.{All-cons}
use Rattle.argo_base.specs.declared.piece.Piece.{Piece}
use Rattle.argo_base.specs.Pieces.{pieces}
use Rattle.argo_base.proofs.PieceLaws.{pieces-first}

-- a piece is not empty, and lies inside its page
abbrev IsInside : Piece → Type 0
IsInside p = (0 < p.n) × (p.off + p.n ≤ 4096)

sum_from : (limit page off n : ℕ) → n ≤ limit → off < 4096 → sum_by (λ (p : Piece). p.n) (pieces (4096 * page + off) n) ≡ n
sum_from zero page off n few below = let none : n ≡ 0 = omega arith in rw none refl
sum_from (suc limit) page off zero few below = refl
sum_from (suc limit) page off (suc n) few below =
    let m = min (suc n) (4096 - off) in
    let rest = sum_from limit (page + 1) 0 (suc n - m) (omega arith) (omega arith) in
    let first = pieces-first page off (suc n) below (omega arith) in
    let more = sum_by-cons (λ (p : Piece). p.n) (record { page = page; off = off; n = m }) (pieces (4096 * (page + 1) + 0) (suc n - m)) in
    ap (λ ps. sum_by (λ (p : Piece). p.n) ps) first ∙ more ∙ omega (arith, rest)

inside_from : (limit page off n : ℕ) → n ≤ limit → off < 4096 → All IsInside (pieces (4096 * page + off) n)
inside_from zero page off n few below = let none : n ≡ 0 = omega arith in rw none (λ i d h. absurd (omega arith))
inside_from (suc limit) page off zero few below = λ i d h. absurd (omega arith)
inside_from (suc limit) page off (suc n) few below =
    let m = min (suc n) (4096 - off) in
    let rest = inside_from limit (page + 1) 0 (suc n - m) (omega arith) (omega arith) in
    let first = pieces-first page off (suc n) below (omega arith) in
    let P : List Piece → Type 0 = λ ps. All IsInside ps in
    subst P (sym first) (All-cons IsInside (record { page = page; off = off; n = m }) _ (omega arith, omega arith) rest)

at_page : (at : ℕ) → at ≡ 4096 * (at / 4096) + at % 4096
at_page at = omega arith

-- the pieces have the bytes of the range
pub pieces-sum : (at n : ℕ) → sum_by (λ (p : Piece). p.n) (pieces at n) ≡ n
pieces-sum at n = ap (λ a. sum_by (λ (p : Piece). p.n) (pieces a n)) (at_page at) ∙ sum_from n (at / 4096) (at % 4096) n (omega arith) (omega arith)

-- each piece lies inside its page
pub pieces-inside : (at n : ℕ) → All (λ (p : Piece). (0 < p.n) × (p.off + p.n ≤ 4096)) (pieces at n)
pieces-inside at n =
    let P : ℕ → Type 0 = λ a. All IsInside (pieces a n) in
    subst P (sym (at_page at)) (inside_from n (at / 4096) (at % 4096) n (omega arith) (omega arith))

-- what follows the first piece begins at its page's end
pub pieces-rest : (page off n : ℕ) (p : Piece) → off < 4096 → Some p ≡ slice_get (pieces (4096 * page + off) n) 0
    → pieces (4096 * page + off) n ≡ p ∷ pieces (4096 * (page + 1) + 0) (n - p.n)
pieces-rest page off zero p below is = absurd (cc)
pieces-rest page off (suc n) p below is =
    let m = min (suc n) (4096 - off) in
    let first = pieces-first page off (suc n) below (omega arith) in
    let same : Some p ≡ Some (record { page = page; off = off; n = m }) = is ∙ ap (λ ps. slice_get ps 0) first in
    let is_piece : p ≡ record { page = page; off = off; n = m } = cc in
    first ∙ ap (λ (q : Piece). q ∷ pieces (4096 * (page + 1) + 0) (suc n - q.n)) (sym is_piece)
