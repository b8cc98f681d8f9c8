-- Laws of the mark between script and report.
use Rattle.std.proofs.Common.{◌≡◌, ◌≢◌, ℕ, ◌<◌, inl, inr, List, length, take, drop, ap, ◌∙◌, subst, arith, length-append}
use Rattle.std.proofs.lemmas.List.{take_at, drop_at}
use Rattle.argo_check.specs.Cut.{EndsLine, BeginsWithMark, IsMarkBetween}

-- where no mark begins, there is none
pub no_mark_here : (text behind : List ℕ) (at : ℕ) → behind ≡ drop at text → ((rest : List ℕ) → ¬ BeginsWithMark behind rest)
    → (b a : List ℕ) → IsMarkBetween text b a → length b ≢ at
no_mark_here text behind at is none b a mark there =
    let same : behind ≡ mark.behind = is ∙ ap (drop at) mark.text_is ∙ drop_at b mark.behind at there in
    let P : List ℕ → Type 0 = λ xs. (rest : List ℕ) → ¬ BeginsWithMark xs rest in
    (subst P same none) a mark.mark

-- nor where no line begins
pub no_line_here : (text before : List ℕ) (at : ℕ) → before ≡ take at text → ¬ EndsLine before → (b a : List ℕ) → IsMarkBetween text b a → length b ≢ at
no_line_here text before at is none b a mark there =
    let same : before ≡ b = is ∙ ap (take at) mark.text_is ∙ take_at b mark.behind at there in
    let P : List ℕ → Type 0 = λ xs. ¬ EndsLine xs in
    (subst P same none) mark.line_begins

some_mark : (behind rest : List ℕ) → BeginsWithMark behind rest → 0 < length behind
some_mark behind rest (inl is) = let n = ap length is in omega (arith, n)
some_mark behind rest (inr is) = let n = ap length is.0 in omega (arith, n)

-- a mark stands before the end
pub mark_inside : (text b a : List ℕ) → IsMarkBetween text b a → length b < length text
mark_inside text b a mark =
    let n = ap length mark.text_is in
    omega (arith, n, length-append b mark.behind, some_mark mark.behind a mark.mark)
