-- Laws of ranks that are taken and given back.
use Rattle.std.proofs.Common.{◌≡◌, ℕ, ◌-◌, List, [], ◌∷◌, ◌++◌, length, take, slice_get, Some, refl, ap, ◌∙◌, arith}
use Rattle.std.proofs.lemmas.List.{length-append}
use Rattle.lock_tokens.specs.Ranks.{IsLast, without_last}

one_less : (held : List ℕ) (rank : ℕ) → length (held ++ rank ∷ []) - 1 ≡ length held
one_less held rank = omega (arith, length-append held (rank ∷ []))

all_but_last : (held : List ℕ) (rank : ℕ) → take (length held) (held ++ rank ∷ []) ≡ held
all_but_last [] rank = refl
all_but_last (r ∷ rs) rank = ap (λ (xs : List ℕ). r ∷ xs) (all_but_last rs rank)

at_end : (held : List ℕ) (rank : ℕ) → slice_get (held ++ rank ∷ []) (length held) ≡ Some rank
at_end [] rank = refl
at_end (r ∷ rs) rank = at_end rs rank

-- the rank that was just taken is the last
pub is_last : (held : List ℕ) (rank : ℕ) → IsLast rank (held ++ rank ∷ [])
is_last held rank = ap (slice_get (held ++ rank ∷ [])) (one_less held rank) ∙ at_end held rank

-- it is given back, and the others are left
pub restored : (held : List ℕ) (rank : ℕ) → without_last (held ++ rank ∷ []) ≡ held
restored held rank = ap (λ n. take n (held ++ rank ∷ [])) (one_less held rank) ∙ all_but_last held rank
