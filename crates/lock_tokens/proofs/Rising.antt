-- Ranks that rise: as many as there can be, one more at their end, and one less.
use Rattle.std.proofs.Common.{ℕ, zero, suc, ◌+◌, ◌<◌, ◌≤◌, List, [], ◌∷◌, ◌++◌, length, take, arith}
use Rattle.lock_tokens.specs.Ranks.{IsAboveAll, RiseFrom}

-- a rank above them all is above those after the first
pub above-tail : (rank r : ℕ) (rs : List ℕ) → IsAboveAll rank (r ∷ rs) → IsAboveAll rank rs
above-tail rank r rs above = λ k d at. above (suc k) d (omega (arith, at))

-- below a rank there are no more than it says
pub few : (low rank : ℕ) (held : List ℕ) → low ≤ rank → RiseFrom low held → IsAboveAll rank held → low + length held ≤ rank
few low rank [] at rises above = omega (arith, at)
few low rank (r ∷ rs) at rises above =
    let first : r < rank = above 0 r (omega arith) in
    omega (arith, rises.0, few (r + 1) rank rs (omega (arith, first)) rises.1 (above-tail rank r rs above))

-- with a rank above them all at their end they still rise
pub rise-push : (low rank : ℕ) (held : List ℕ) → low ≤ rank → RiseFrom low held → IsAboveAll rank held → RiseFrom low (held ++ rank ∷ [])
rise-push low rank [] at rises above = (at, tt)
rise-push low rank (r ∷ rs) at rises above =
    let first : r < rank = above 0 r (omega arith) in (
      rises.0,
      rise-push (r + 1) rank rs (omega (arith, first)) rises.1 (above-tail rank r rs above),
    )

-- a beginning of them rises
pub rise-take : (low n : ℕ) (held : List ℕ) → RiseFrom low held → RiseFrom low (take n held)
rise-take low zero held rises = tt
rise-take low (suc n) [] rises = tt
rise-take low (suc n) (r ∷ rs) rises = (rises.0, rise-take (r + 1) n rs rises.1)
