-- Where the first line of a text ends.
use Rattle.std.proofs.Common.{◌≡◌, ℕ, suc, ◌==◌, ◌<◌, true, false, cond, List, [], ◌∷◌, ◌++◌, length, take, drop, Some, None, position, refl, sym, ap, ◌∙◌, inl, inr, arith, add-one}
use Rattle.std.specs.List.{position_or_len}
use Rattle.std.proofs.Math.Numerals.{one-add}
use Rattle.std.proofs.lemmas.Bool.{cases_Bool, eq-eqb, ne_eqb}
use Rattle.std.proofs.lemmas.List.{drop-drop}
use Rattle.script_text.specs.Lines.{is_line_feed, onto_first, line_byte, lines_of, without_return}
use Rattle.script_text.proofs.FirstWord.{at_none, at_some}

fed : (x : ℕ) (ls : List (List ℕ)) → is_line_feed x ≡ true → line_byte x ls ≡ [] ∷ ls
fed x ls e = rw e refl

unfed : (x : ℕ) (ls : List (List ℕ)) → is_line_feed x ≡ false → line_byte x ls ≡ onto_first x ls
unfed x ls e = rw e refl

at_feed : (x : ℕ) (xs : List ℕ) → is_line_feed x ≡ true → position_or_len is_line_feed (x ∷ xs) ≡ 0
at_feed x xs e = rw e refl

past : (x : ℕ) (xs : List ℕ) → is_line_feed x ≡ false → position_or_len is_line_feed (x ∷ xs) ≡ suc (position_or_len is_line_feed xs)
past x xs e = rw (e, one-add) refl

whole : (xs : List ℕ) → 0 < length xs → position_or_len is_line_feed xs ≡ length xs → lines_of xs ≡ xs ∷ []
whole [] some e = absurd (omega arith)
whole (x ∷ []) some e =
    elim (cases_Bool (is_line_feed x)) [
      | inl t ↦ absurd (omega (arith, at_feed x [] t))
      | inr f ↦ unfed x [] f
    ]
whole (x ∷ y ∷ ys) some e =
    elim (cases_Bool (is_line_feed x)) [
      | inl t ↦ absurd (omega (arith, at_feed x (y ∷ ys) t))
      | inr f ↦ unfed x (lines_of (y ∷ ys)) f ∙ ap (onto_first x) (whole (y ∷ ys) (omega arith) (omega (arith, past x (y ∷ ys) f)))
    ]

cut : (xs : List ℕ) → position_or_len is_line_feed xs < length xs → lines_of xs ≡ take (position_or_len is_line_feed xs) xs ∷ lines_of (drop (suc (position_or_len is_line_feed xs)) xs)
cut [] h = absurd (omega arith)
cut (x ∷ xs) h =
    let front = λ (n : ℕ). take n (x ∷ xs) ∷ lines_of (drop (suc n) (x ∷ xs)) in
    elim (cases_Bool (is_line_feed x)) [
      | inl t ↦ fed x (lines_of xs) t ∙ ap front (sym (at_feed x xs t))
      | inr f ↦ unfed x (lines_of xs) f ∙ ap (onto_first x) (cut xs (omega (arith, past x xs f))) ∙ ap front (sym (past x xs f))
    ]

-- what `cut_line` gives
pub last_line : (text : List ℕ) → 0 < length text → position is_line_feed text ≡ None → lines_of text ≡ text ∷ []
last_line text some e = whole text some (at_none is_line_feed text e)

pub first_line : (text : List ℕ) (i : ℕ) → position is_line_feed text ≡ Some i → lines_of text ≡ take i text ∷ lines_of (drop 1 (drop i text))
first_line text i e =
    let h = at_some is_line_feed text i e in
    let there : lines_of text ≡ take i text ∷ lines_of (drop (suc i) text) = rw (← h.0) (cut text (omega (arith, h))) in
    there ∙ ap (λ (r : List ℕ). take i text ∷ lines_of r) (sym (drop-drop 1 i text ∙ ap (λ (n : ℕ). drop n text) (add-one i)))

pushed : (xs : List ℕ) (b : ℕ) → without_return (xs ++ b ∷ []) ≡ cond (b == 13) xs (xs ++ b ∷ [])
pushed [] b = refl
pushed (x ∷ []) b = elim (b == 13) as (λ t. x ∷ cond t [] (b ∷ []) ≡ cond t (x ∷ []) (x ∷ b ∷ [])) [ true ↦ refl | false ↦ refl ]
pushed (x ∷ y ∷ ys) b =
    ap (λ (r : List ℕ). x ∷ r) (pushed (y ∷ ys) b)
    ∙ elim (b == 13) as (λ t. x ∷ cond t (y ∷ ys) (y ∷ ys ++ b ∷ []) ≡ cond t (x ∷ y ∷ ys) (x ∷ y ∷ ys ++ b ∷ [])) [ true ↦ refl | false ↦ refl ]

pub has_return : (line front : List ℕ) (b : ℕ) → line ≡ front ++ b ∷ [] → b ≡ 13 → front ≡ without_return line
has_return line front b e is = sym (ap without_return e ∙ pushed front b ∙ rw (eq-eqb _ _ is) refl)

pub has_none : (line front : List ℕ) (b : ℕ) → line ≡ front ++ b ∷ [] → (b ≡ 13 → ⊥) → line ≡ without_return line
has_none line front b e isnt = e ∙ sym (ap without_return e ∙ pushed front b ∙ rw (ne_eqb _ _ isnt) refl)

pub no_bytes : (line : List ℕ) → length line ≡ 0 → line ≡ without_return line
no_bytes [] e = refl
no_bytes (x ∷ xs) e = absurd (omega arith)
