-- Laws of passes that are made one after another, for virtual CPU 0, 1 and so on.
use Rattle.std.proofs.Common.{◌≡◌, ℕ, zero, suc, ◌+◌, ◌<◌, List, [], ◌∷◌, ◌++◌, length, slice_index_or, ap, ◌∙◌, subst, arith}
use Rattle.argo_board.specs.Board.{Tally, tally, AreFresh as AreFreshTallies}
use Rattle.shared_steps.specs.Passes.{Carried, carried, AreFresh}

-- the passes of the board that are left, from this number on
abbrev pub AreLeft : ℕ → List Tally → Type 0
AreLeft n passes = (k : ℕ) (d : Tally) → k < length passes → slice_index_or passes k d ≡ tally (n + k) 0 0 0

-- passes that have made no step and hold no lock, from this number on
abbrev pub AreFreshFrom : ℕ → List Carried → Type 0
AreFreshFrom n [] = Unit {0}
AreFreshFrom n (p ∷ ps) = (p ≡ carried (tally n 0 0 0) []) × AreFreshFrom (n + 1) ps

pub left_first : (n : ℕ) (p : Tally) (ps : List Tally) → AreLeft n (p ∷ ps) → p ≡ tally n 0 0 0
left_first n p ps left =
    let moved : n + 0 ≡ n = omega arith in
    left 0 p (omega arith) ∙ ap (λ m. tally m 0 0 0) moved

pub left_rest : (n : ℕ) (p : Tally) (ps : List Tally) → AreLeft n (p ∷ ps) → AreLeft (n + 1) ps
left_rest n p ps left = λ k d below.
    let moved : n + suc k ≡ n + 1 + k = omega arith in
    left (suc k) d (omega (arith, below)) ∙ ap (λ m. tally m 0 0 0) moved

pub all_left : (ps : List Tally) → AreFreshTallies ps → AreLeft 0 ps
all_left ps fresh = λ k d below.
    let moved : k ≡ 0 + k = omega arith in
    fresh k d below ∙ ap (λ m. tally m 0 0 0) moved

pub fresh_more : (n : ℕ) (ps : List Carried) → AreFreshFrom n ps → AreFreshFrom n (ps ++ carried (tally (n + length ps) 0 0 0) [] ∷ [])
fresh_more n [] fresh =
    let moved : n + 0 ≡ n = omega arith in
    (ap (λ m. carried (tally m 0 0 0) []) moved, tt)
fresh_more n (p ∷ ps) fresh =
    let moved : n + 1 + length ps ≡ n + suc (length ps) = omega arith in
    (fresh.0, subst (λ m. AreFreshFrom (n + 1) (ps ++ carried (tally m 0 0 0) [] ∷ [])) moved (fresh_more (n + 1) ps fresh.1))

fresh_at : (n : ℕ) (ps : List Carried) → AreFreshFrom n ps → (k : ℕ) (d : Carried) → k < length ps → slice_index_or ps k d ≡ carried (tally (n + k) 0 0 0) []
fresh_at n [] fresh k d below = absurd (omega (arith, below))
fresh_at n (p ∷ ps) fresh zero d below =
    let moved : n ≡ n + 0 = omega arith in
    fresh.0 ∙ ap (λ m. carried (tally m 0 0 0) []) moved
fresh_at n (p ∷ ps) fresh (suc k) d below =
    let moved : n + 1 + k ≡ n + suc k = omega arith in
    fresh_at (n + 1) ps fresh.1 k d (omega (arith, below)) ∙ ap (λ m. carried (tally m 0 0 0) []) moved

pub all_fresh : (ps : List Carried) → AreFreshFrom 0 ps → AreFresh ps
all_fresh ps fresh = λ k d below.
    let moved : 0 + k ≡ k = omega arith in
    fresh_at 0 ps fresh k d below ∙ ap (λ m. carried (tally m 0 0 0) []) moved
