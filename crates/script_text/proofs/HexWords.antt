-- A hex word has two digits for each byte.
use Rattle.std.proofs.Common.{◌≡◌, ℕ, ◌+◌, ◌*◌, ◌<◌, ◌⊎◌, true, leb, List, [], ◌∷◌, length, refl, inl, inr, arith}
use Rattle.std.proofs.lemmas.Bool.{and_parts, ltb-true, eqb-true}
use Rattle.std.proofs.lemmas.Bool.Decides.{nat_tests}
use Rattle.argo_model.specs.Runs.Script.{is_short}
use Rattle.script_text.specs.Numbers.{is_hex, bytes_of}

halves : (w : List ℕ) → (length w ≡ 2 * length (bytes_of w)) ⊎ (length w ≡ 2 * length (bytes_of w) + 1)
halves [] = inl refl
halves (a ∷ []) = inr refl
halves (a ∷ b ∷ cs) = elim (halves cs) [ inl e ↦ inl (omega arith) | inr e ↦ inr (omega arith) ]

short_test : (n k : ℕ) → n ≡ 2 * k → 0 < n → leb n 128 ≡ is_short k
short_test n k e some = grind (arith, nat_tests)

pub short_hex : (w : List ℕ) → is_hex w ≡ true → leb (length w) 128 ≡ is_short (length (bytes_of w))
short_hex w h =
    let parts = and_parts _ _ h in
    let front = and_parts _ _ parts.0 in
    let some = ltb-true _ _ front.0 in
    let even = eqb-true _ _ front.1 in
    elim (halves w) [ inl e ↦ short_test (length w) (length (bytes_of w)) e some | inr e ↦ absurd (omega arith) ]
