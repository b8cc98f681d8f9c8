-- Laws of a ring's two words, as its bytes are written.
use Rattle.std.proofs.Common.{◌≡◌, ℕ, ◌+◌, ◌<◌, ◌≤◌, ◌^◌, List, [], ◌∷◌, length, take, drop, refl, sym, ap, ◌∙◌}
use Rattle.std.specs.Int.{w32, from_le_bytes}
use Rattle.std.proofs.lemmas.Nat.{from_le_bytes-to_le_bytes_4}
use Rattle.argo_base.specs.Layout.{u32_at, u32_bytes}
use Rattle.argo_base.specs.Splice.{splice}
use Rattle.argo_base.proofs.SpliceLaws.{take-splice, take-splice_before, drop-splice_after}

-- a word is the first four bytes
pub first_four : (xs : List ℕ) → from_le_bytes w32 xs ≡ from_le_bytes w32 (take 4 xs)
first_four [] = refl
first_four (a ∷ []) = refl
first_four (a ∷ b ∷ []) = refl
first_four (a ∷ b ∷ c ∷ []) = refl
first_four (a ∷ b ∷ c ∷ d ∷ xs) = refl

-- a write behind it leaves it
pub word_stays : (xs zs : List ℕ) (at off : ℕ) → off + 4 ≤ at → at ≤ length xs → u32_at (splice xs at zs) off ≡ u32_at xs off
word_stays xs zs at off behind inside =
    first_four (drop off (splice xs at zs))
    ∙ ap (from_le_bytes w32) (take-splice_before xs zs at off 4 behind inside)
    ∙ sym (first_four (drop off xs))

-- and so does a write before it
pub word_stays_behind : (xs zs : List ℕ) (at off : ℕ) → at + length zs ≤ off → at ≤ length xs → u32_at (splice xs at zs) off ≡ u32_at xs off
word_stays_behind xs zs at off before inside = ap (from_le_bytes w32) (drop-splice_after xs zs at off before inside)

-- what was written as a word is read as such
pub word_written : (xs : List ℕ) (at n : ℕ) → n < 2 ^ 32 → at ≤ length xs → u32_at (splice xs at (u32_bytes n)) at ≡ n
word_written xs at n small inside =
    first_four (drop at (splice xs at (u32_bytes n)))
    ∙ ap (from_le_bytes w32) (take-splice xs (u32_bytes n) at inside)
    ∙ from_le_bytes-to_le_bytes_4 n small

-- four bytes that were written are a word
pub word_put : (xs zs : List ℕ) (at : ℕ) → length zs ≡ 4 → at ≤ length xs → u32_at (splice xs at zs) at ≡ u32_at zs 0
word_put xs zs at four inside =
    let there : take 4 (drop at (splice xs at zs)) ≡ zs = ap (λ n. take n (drop at (splice xs at zs))) (sym four) ∙ take-splice xs zs at inside in
    first_four (drop at (splice xs at zs)) ∙ ap (from_le_bytes w32) there
