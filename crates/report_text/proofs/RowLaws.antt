-- Rows of slot bytes that are zero, and rows that follow one another.
use Rattle.std.proofs.Common.{◌≡◌, ℕ, suc, zero, ◌+◌, ◌-◌, ◌*◌, ◌≤◌, ◌==◌, ◌&&◌, Bool, true, false, if◌then◌else◌, List, [], ◌++◌, take, drop, append_assoc, refl, sym, ap, ◌∙◌, arith}
use Rattle.std.proofs.Math.Seq.{take-add}
use Rattle.std.proofs.lemmas.List.{drop-drop}
use Rattle.std.proofs.lemmas.List.Folds.{list_all-append}
use Rattle.std.specs.List.{list_all}
use Rattle.argo_model.specs.Runs.Report.{slots_at, slots_line}
use Rattle.report_text.specs.Lines.{rows_text}

both_are : (a b : Bool) → (a && b) ≡ true → (a ≡ true) × (b ≡ true)
both_are true true e = (refl, refl)
both_are true false e = cc
both_are false b e = cc

-- rows that are zero have no text
pub no_text : (slots : List ℕ) (a n : ℕ) → list_all (λ b. b == 0) (take (32 * n) (drop (32 * a) slots)) ≡ true → rows_text slots a n ≡ []
no_text slots a zero blank = refl
no_text slots a (suc n) blank =
    let here = drop (32 * a) slots in
    let parts = take-add 32 (32 * n) here in
    let e : (list_all (λ b. b == 0) (take 32 here) && list_all (λ b. b == 0) (take (32 * n) (drop 32 here))) ≡ true =
    sym (list_all-append (λ b. b == 0) (take 32 here) (take (32 * n) (drop 32 here)))
    ∙ ap (list_all (λ b. b == 0)) (sym parts)
    ∙ ap (λ m. list_all (λ b. b == 0) (take m here)) (omega arith)
    ∙ blank in
    let both = both_are (list_all (λ b. b == 0) (take 32 here)) (list_all (λ b. b == 0) (take (32 * n) (drop 32 here))) e in
    let on : list_all (λ b. b == 0) (take (32 * n) (drop (32 * (a + 1)) slots)) ≡ true =
    ap (λ m. list_all (λ b. b == 0) (take (32 * n) (drop m slots))) (omega arith)
    ∙ ap (λ xs. list_all (λ b. b == 0) (take (32 * n) xs)) (sym (drop-drop 32 (32 * a) slots)) ∙ both.1 in
    ap (λ t. t ++ rows_text slots (a + 1) n) (ap (λ b. if b then [] else slots_line (32 * a) (take 32 here)) both.0) ∙ no_text slots (a + 1) n on

more : (n m : ℕ) → suc n + m ≡ suc (n + m)
more n m = omega arith

further : (a n : ℕ) → a + suc n ≡ a + 1 + n
further a n = omega arith

-- n rows, and m rows more
rows_and_more : (slots : List ℕ) (a n m : ℕ) → rows_text slots a n ++ rows_text slots (a + n) m ≡ rows_text slots a (n + m)
rows_and_more slots a zero m =
    let from : a + 0 ≡ a = omega arith in
    let count : m ≡ 0 + m = omega arith in
    ap (λ at. rows_text slots at m) from ∙ ap (rows_text slots a) count
rows_and_more slots a (suc n) m =
    append_assoc (slots_at slots (32 * a)) (rows_text slots (a + 1) n) (rows_text slots (a + suc n) m)
    ∙ ap (λ t. slots_at slots (32 * a) ++ t)
    (ap (λ at. rows_text slots (a + 1) n ++ rows_text slots at m) (further a n) ∙ rows_and_more slots (a + 1) n m)
    ∙ ap (rows_text slots a) (sym (more n m))

-- the rows up to a number, and those from there on to another
pub rows_then : (slots : List ℕ) (from to : ℕ) → from ≤ to → rows_text slots 0 from ++ rows_text slots from (to - from) ≡ rows_text slots 0 to
rows_then slots from to order =
    let start : from ≡ 0 + from = omega arith in
    let end : from + (to - from) ≡ to = omega (arith, order) in
    ap (λ at. rows_text slots 0 from ++ rows_text slots at (to - from)) start ∙ rows_and_more slots 0 from (to - from) ∙ ap (rows_text slots 0) end
