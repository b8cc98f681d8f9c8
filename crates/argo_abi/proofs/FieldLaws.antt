-- A field read and laid out again gives its bytes back, and so does a row of fields.
use Rattle.std.proofs.Common.{◌≡◌, ℕ, zero, suc, ◌+◌, ◌<◌, ◌≤◌, List, [], ◌∷◌, ◌++◌, length, get_or, take, drop, refl, sym, ◌∙◌, ap, arith, lit<, length-drop}
use Rattle.std.proofs.lemmas.List.{drop-drop}
use Rattle.std.proofs.lemmas.Nat.{le_bytes_2, le_bytes_4, le_bytes_8}
use Rattle.argo_base.specs.Layout.{u16_at, u32_at, u64_at, u16_bytes, u32_bytes, u64_bytes}

-- the values are bytes
abbrev pub AreBytes : List ℕ → Type 0
AreBytes bytes = (i : ℕ) → get_or bytes i 0 < 256

first_are : (k : ℕ) (bytes : List ℕ) → AreBytes bytes → AreBytes (take k bytes)
first_are zero bytes are i = lit< tt
first_are (suc k) [] are i = lit< tt
first_are (suc k) (x ∷ xs) are zero = are zero
first_are (suc k) (x ∷ xs) are (suc i) = first_are k xs (λ j. are (suc j)) i

last_are : (k : ℕ) (bytes : List ℕ) → AreBytes bytes → AreBytes (drop k bytes)
last_are zero bytes are i = are i
last_are (suc k) [] are i = lit< tt
last_are (suc k) (x ∷ xs) are i = last_are k xs (λ j. are (suc j)) i

u16_first : (bytes : List ℕ) → AreBytes bytes → 2 ≤ length bytes → u16_bytes (u16_at bytes 0) ++ drop 2 bytes ≡ bytes
u16_first (a ∷ b ∷ rest) are long = ap (λ bs. bs ++ rest) (le_bytes_2 (a ∷ b ∷ []) _ refl (first_are 2 (a ∷ b ∷ rest) are) refl)
u16_first _ are long = absurd (omega arith)

u32_first : (bytes : List ℕ) → AreBytes bytes → 4 ≤ length bytes → u32_bytes (u32_at bytes 0) ++ drop 4 bytes ≡ bytes
u32_first (a ∷ b ∷ c ∷ d ∷ rest) are long = ap (λ bs. bs ++ rest) (le_bytes_4 (a ∷ b ∷ c ∷ d ∷ []) _ refl (first_are 4 (a ∷ b ∷ c ∷ d ∷ rest) are) refl)
u32_first _ are long = absurd (omega arith)

u64_first : (bytes : List ℕ) → AreBytes bytes → 8 ≤ length bytes → u64_bytes (u64_at bytes 0) ++ drop 8 bytes ≡ bytes
u64_first (a ∷ b ∷ c ∷ d ∷ e ∷ f ∷ g ∷ h ∷ rest) are long =
    ap (λ bs. bs ++ rest)
    (le_bytes_8 (a ∷ b ∷ c ∷ d ∷ e ∷ f ∷ g ∷ h ∷ []) _ refl (first_are 8 (a ∷ b ∷ c ∷ d ∷ e ∷ f ∷ g ∷ h ∷ rest) are) refl)
u64_first _ are long = absurd (omega arith)

module _ (bytes : List ℕ) (off next : ℕ) (rest : List ℕ) (are : AreBytes bytes) where
  -- a field before the rest of its bytes gives the bytes from its place on
  pub u16_next : next ≡ off + 2 → next ≤ length bytes → rest ≡ drop next bytes → u16_bytes (u16_at bytes off) ++ rest ≡ drop off bytes
  u16_next ends inside is =
      ap (λ r. u16_bytes (u16_at bytes off) ++ r) (is ∙ ap (λ k. drop k bytes) ends ∙ sym (drop-drop 2 off bytes))
      ∙ u16_first (drop off bytes) (last_are off bytes are) (omega (arith, length-drop off bytes))

  pub u32_next : next ≡ off + 4 → next ≤ length bytes → rest ≡ drop next bytes → u32_bytes (u32_at bytes off) ++ rest ≡ drop off bytes
  u32_next ends inside is =
      ap (λ r. u32_bytes (u32_at bytes off) ++ r) (is ∙ ap (λ k. drop k bytes) ends ∙ sym (drop-drop 4 off bytes))
      ∙ u32_first (drop off bytes) (last_are off bytes are) (omega (arith, length-drop off bytes))

  pub u64_next : next ≡ off + 8 → next ≤ length bytes → rest ≡ drop next bytes → u64_bytes (u64_at bytes off) ++ rest ≡ drop off bytes
  u64_next ends inside is =
      ap (λ r. u64_bytes (u64_at bytes off) ++ r) (is ∙ ap (λ k. drop k bytes) ends ∙ sym (drop-drop 8 off bytes))
      ∙ u64_first (drop off bytes) (last_are off bytes are) (omega (arith, length-drop off bytes))
