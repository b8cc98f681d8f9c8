-- Which sections stand open as one of them takes a step.
use Rattle.std.proofs.Common.{◌≡◌, ℕ, zero, suc, Bool, true, cond, List, [], ◌∷◌, ◌++◌, length, filter, slice_get, slice_set, Option, Some, None, refl, sym, ap, ◌∙◌}
use Rattle.std.specs.List.{range_with_len}
use Rattle.std.proofs.lemmas.List.Sums.{fold-append}
use Rattle.std.proofs.lemmas.List.{length-set}
use Rattle.argo_model.specs.Runs.Script.{Script}
use Rattle.argo_model.specs.Runs.Run.{Progress, Course, Turn, start, run, step, after_turn, next_turn, is_open, is_unfinished}
use Rattle.serial_run.specs.Picks.{open_sections}

filter-alike : (p q : ℕ → Bool) (xs : List ℕ) → ((k : ℕ) → p k ≡ q k) → filter p xs ≡ filter q xs
filter-alike p q [] alike = refl
filter-alike p q (x ∷ xs) alike = ap (λ b. cond b (x ∷ filter p xs) (filter p xs)) (alike x) ∙ ap (λ ys. cond (q x) (x ∷ ys) ys) (filter-alike p q xs alike)

-- a section that is open before a step of its own, and after it, leaves every section as open as it was
elsewhere : (ps : List Progress) (v k : ℕ) (p : Progress) → is_unfinished (slice_get ps v) ≡ true → is_unfinished (slice_get (slice_set ps v p) v) ≡ true
    → is_unfinished (slice_get ps k) ≡ is_unfinished (slice_get (slice_set ps v p) k)
elsewhere [] v k p before after = refl
elsewhere (x ∷ ps) zero zero p before after = before ∙ sym after
elsewhere (x ∷ ps) zero (suc k) p before after = refl
elsewhere (x ∷ ps) (suc v) zero p before after = refl
elsewhere (x ∷ ps) (suc v) (suc k) p before after = elsewhere ps v k p before after

after_turn-open : (c : Course) (v : ℕ) (t : Option Turn) → is_open c v ≡ true → is_open (after_turn c v t) v ≡ true → open_sections c ≡ open_sections (after_turn c v t)
after_turn-open c v None before after = refl
after_turn-open c v (Some t) before after =
    filter-alike (is_open c) (is_open (after_turn c v (Some t))) (range_with_len 0 (length c.sections)) (λ k. elsewhere c.sections v k t.progress before after)
    ∙ ap (λ n. filter (is_open (after_turn c v (Some t))) (range_with_len 0 n)) (sym (length-set c.sections v t.progress))

run-open : (s : Script) (before : List ℕ) (v : ℕ) → is_open (run s before) v ≡ true → is_open (step (run s before) v) v ≡ true
    → open_sections (run s before) ≡ open_sections (step (run s before) v)
run-open s before v was is = after_turn-open (run s before) v (next_turn (run s before) v) was is

-- as long as the section that steps has a line left, the open sections are those that were open
pub still_open : (s : Script) (before : List ℕ) (v : ℕ) → is_open (run s before) v ≡ true → is_open (run s (before ++ v ∷ [])) v ≡ true
    → open_sections (run s before) ≡ open_sections (run s (before ++ v ∷ []))
still_open s before v was is =
    let e : run s (before ++ v ∷ []) ≡ step (run s before) v = fold-append step (start s) before (v ∷ []) in
    run-open s before v was (ap (λ c. is_open c v) (sym e) ∙ is) ∙ ap open_sections (sym e)
