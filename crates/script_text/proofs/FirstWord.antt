-- Where the first word of a line stands.
use Rattle.std.proofs.Common.{◌≡◌, ℕ, suc, ◌<◌, Bool, true, false, not, ltb, List, [], ◌∷◌, length, take, drop, Some, None, position, unwrap_or, refl, sym, ap, ◌∙◌, inl, inr, arith}
use Rattle.std.specs.List.{position_or_len}
use Rattle.std.proofs.Math.Numerals.{one-add}
use Rattle.std.proofs.lemmas.Bool.{cases_Bool, ltb-true, ltb-false, not-true}
use Rattle.std.proofs.lemmas.Option.{cond_some}
use Rattle.std.proofs.lemmas.List.{drop_all}
use Rattle.std.proofs.lemmas.List.Sums.{prefix_len-le-length}
use Rattle.script_text.specs.Lines.{is_blank, goes_on, word_byte, onto_first, words_of}

abbrev pub is_solid : ℕ → Bool
is_solid b = not (is_blank b)

-- the place of the first that passes, or the length
pub unwrapped : (p : ℕ → Bool) (xs : List ℕ) → unwrap_or (position p xs) (length xs) ≡ position_or_len p xs
unwrapped p xs =
    elim (cases_Bool (ltb (position_or_len p xs) (length xs))) [
      | inl e ↦ rw e refl
      | inr e ↦ rw e (omega (arith, ltb-false _ _ e, prefix_len-le-length (λ x. not (p x)) xs))
    ]

pub at_none : (p : ℕ → Bool) (xs : List ℕ) → position p xs ≡ None → position_or_len p xs ≡ length xs
at_none p xs e = sym (unwrapped p xs) ∙ rw e refl

pub at_some : (p : ℕ → Bool) (xs : List ℕ) (i : ℕ) → position p xs ≡ Some i → (position_or_len p xs ≡ i) × (i < length xs)
at_some p xs i e =
    let h = cond_some (ltb (position_or_len p xs) (length xs)) (position_or_len p xs) i e in
    (h.1, omega (arith, ltb-true _ _ h.0, h.1))

-- blanks at the front make no difference
pub skips : (xs : List ℕ) → words_of (drop (position_or_len is_solid xs) xs) ≡ words_of xs
skips [] = refl
skips (x ∷ xs) =
    elim (cases_Bool (is_blank x)) [
      | inl e ↦ rw (e, one-add) (skips xs)
      | inr e ↦ let none : position_or_len is_solid (x ∷ xs) ≡ 0 = rw e refl in ap (λ (n : ℕ). words_of (drop n (x ∷ xs))) none
    ]

-- what stands behind them begins with a word, or is nothing
pub begins : (xs : List ℕ) → position_or_len is_solid xs < length xs → goes_on (drop (position_or_len is_solid xs) xs) ≡ true
begins [] h = absurd (omega arith)
begins (x ∷ xs) h =
    elim (cases_Bool (is_blank x)) [
      | inl e ↦ let more : position_or_len is_solid (x ∷ xs) ≡ suc (position_or_len is_solid xs) = rw (e, one-add) refl in rw more (begins xs (omega (arith, more)))
      | inr e ↦ let none : position_or_len is_solid (x ∷ xs) ≡ 0 = rw e refl in rw none (rw e refl)
    ]

alone : (x : ℕ) (ws : List (List ℕ)) → is_blank x ≡ false → word_byte x false ws ≡ (x ∷ []) ∷ ws
alone x ws e = rw e refl

joined : (x : ℕ) (ws : List (List ℕ)) → is_blank x ≡ false → word_byte x true ws ≡ onto_first x ws
joined x ws e = rw e refl

-- the first word ends at the first blank
pub ends : (xs : List ℕ) → goes_on xs ≡ true → words_of xs ≡ take (position_or_len is_blank xs) xs ∷ words_of (drop (position_or_len is_blank xs) xs)
ends [] h = absurd cc
ends (x ∷ []) h =
    let solid : is_blank x ≡ false = not-true _ h in
    rw solid refl
ends (x ∷ y ∷ ys) h =
    let solid : is_blank x ≡ false = not-true _ h in
    let more : position_or_len is_blank (x ∷ y ∷ ys) ≡ suc (position_or_len is_blank (y ∷ ys)) = rw solid (one-add (position_or_len is_blank (y ∷ ys))) in
    let cut = λ (n : ℕ). take n (x ∷ y ∷ ys) ∷ words_of (drop n (x ∷ y ∷ ys)) in
    elim (cases_Bool (is_blank y)) [
      | inl e ↦
          let one : position_or_len is_blank (x ∷ y ∷ ys) ≡ 1 = rw (solid, e) refl in
          ap (λ (b : Bool). word_byte x (not b) (words_of (y ∷ ys))) e ∙ alone x (words_of (y ∷ ys)) solid ∙ ap cut (sym one)
      | inr e ↦
          ap (λ (b : Bool). word_byte x (not b) (words_of (y ∷ ys))) e ∙ joined x (words_of (y ∷ ys)) solid
          ∙ ap (onto_first x) (ends (y ∷ ys) (rw e refl)) ∙ ap cut (sym more)
    ]

-- what `next_word` finds
pub no_word : (line : List ℕ) → position is_solid line ≡ None → words_of line ≡ []
no_word line e = sym (skips line) ∙ ap words_of (drop_all _ line (omega (arith, at_none is_solid line e)))

pub a_word : (line text : List ℕ) (i : ℕ) → position is_solid line ≡ Some i → text ≡ drop i line
    → words_of line ≡ take (unwrap_or (position is_blank text) (length text)) text ∷ words_of (drop (unwrap_or (position is_blank text) (length text)) text)
a_word line text i e is =
    let h = at_some is_solid line i e in
    let there : text ≡ drop (position_or_len is_solid line) line = is ∙ ap (λ (n : ℕ). drop n line) (sym h.0) in
    let on : goes_on text ≡ true = rw there (begins line (omega (arith, h))) in
    rw (unwrapped is_blank text) (sym (skips line) ∙ ap words_of (sym there) ∙ ends text on)
