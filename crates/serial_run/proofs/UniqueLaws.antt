-- The picks of a seed are one schedule.
use Rattle.std.proofs.Common.{◌≡◌, ℕ, zero, suc, ◌+◌, ◌<◌, ◌≤◌, Bool, true, false, not, cond, List, [], ◌∷◌, ◌++◌, length, take, filter, slice_get, get_or, IsTrue, Some, refl, sym, ap, ◌∙◌, arith, ⊎_elim}
use Rattle.std.specs.List.{list_all, range_with_len}
use Rattle.std.proofs.lemmas.Bool.{cases_lt, false≢true}
use Rattle.std.proofs.lemmas.List.{take_all}
use Rattle.std.proofs.lemmas.Option.{slice_get-get_or, slice_get_within, slice_get_past}
use Rattle.argo_model.specs.Runs.Script.{Script}
use Rattle.argo_model.specs.Runs.Run.{run, Course, Progress, is_open, is_unfinished, is_finished, has_lines}
use Rattle.argo_machine.proofs.TestLaws.{both}
use Rattle.argo_base.specs.Generator.{number_after}
use Rattle.serial_run.specs.Picks.{place_by, open_sections, next_pick, EachIsPick, ArePicks, PicksAreUnique}

take-one : (xs : List ℕ) (k x : ℕ) → slice_get xs k ≡ Some x → take (suc k) xs ≡ take k xs ++ x ∷ []
take-one [] k x here = let none = slice_get_within [] k x here in absurd (omega (arith, none))
take-one (y ∷ ys) zero x here = let same : y ≡ x = cc in ap (λ z. z ∷ []) same
take-one (y ∷ ys) (suc k) x here = ap (λ zs. y ∷ zs) (take-one ys k x here)

-- two schedules of picks begin alike
same-start : (s : Script) (seed : ℕ) (xs ys : List ℕ) → EachIsPick s seed xs → EachIsPick s seed ys → (k : ℕ) → k ≤ length xs → k ≤ length ys → take k xs ≡ take k ys
same-start s seed xs ys picks others zero few less = refl
same-start s seed xs ys picks others (suc k) few less =
    let before = same-start s seed xs ys picks others k (omega arith) (omega arith) in
    let here : slice_get xs k ≡ Some (get_or xs k 0) = slice_get-get_or xs k 0 (omega arith) in
    let there : slice_get ys k ≡ Some (get_or xs k 0) =
    others k (omega arith) ∙ ap (next_pick s seed) (sym before) ∙ sym (picks k (omega arith)) ∙ here in
    take-one xs k (get_or xs k 0) here ∙ ap (λ zs. zs ++ get_or xs k 0 ∷ []) before ∙ sym (take-one ys k (get_or xs k 0) there)

not_open : (b : Bool) → IsTrue (not b) → b ≡ false
not_open true h = absurd (false≢true h)
not_open false h = refl

finished-at : (ps : List Progress) (v : ℕ) → IsTrue (list_all is_finished ps) → is_unfinished (slice_get ps v) ≡ false
finished-at [] v all = ap is_unfinished (slice_get_past [] v (omega arith))
finished-at (p ∷ ps) zero all = not_open (has_lines p.left) (both (is_finished p) (list_all is_finished ps) all).0
finished-at (p ∷ ps) (suc v) all = finished-at ps v (both (is_finished p) (list_all is_finished ps) all).1

filter-empty : (p : ℕ → Bool) (from n : ℕ) → ((v : ℕ) → p v ≡ false) → filter p (range_with_len from n) ≡ []
filter-empty p from zero none = refl
filter-empty p from (suc n) none =
    ap (λ b. cond b (from ∷ filter p (range_with_len (from + 1) n)) (filter p (range_with_len (from + 1) n))) (none from) ∙ filter-empty p (from + 1) n none

-- after a complete schedule no section is open
none-open : (c : Course) → IsTrue (list_all is_finished c.sections) → open_sections c ≡ []
none-open c all = filter-empty (is_open c) 0 (length c.sections) (λ v. finished-at c.sections v all)

no_more : (s : Script) (seed : ℕ) (xs ys : List ℕ) → ArePicks s seed xs → EachIsPick s seed ys → length xs < length ys → ⊥
no_more s seed xs ys picks others longer =
    let n = length xs in
    let start : take n ys ≡ xs = sym (same-start s seed xs ys picks.each others n (omega arith) (omega (arith, longer))) ∙ take_all n xs (omega arith) in
    let here : slice_get ys n ≡ Some (get_or ys n 0) = slice_get-get_or ys n 0 longer in
    let none : open_sections (run s xs) ≡ [] = none-open (run s xs) picks.complete.all_finished in
    let place = place_by seed (number_after seed (n + 1)) (length (open_sections (run s xs))) in
    let pick : slice_get (open_sections (run s xs)) place ≡ Some (get_or ys n 0) = sym (ap (next_pick s seed) start) ∙ sym (others n longer) ∙ here in
    let within = slice_get_within [] place (get_or ys n 0) (ap (λ zs. slice_get zs place) (sym none) ∙ pick) in
    omega (arith, within)

pub unique : PicksAreUnique
unique s seed xs ys one other =
    ⊎_elim (λ less. absurd (no_more s seed xs ys one other.each less))
    (λ few. ⊎_elim (λ less. absurd (no_more s seed ys xs other one.each less))
    (λ more.
    let n : length xs ≡ length ys = omega (arith, few, more) in
    sym (take_all (length xs) xs (omega arith)) ∙ same-start s seed xs ys one.each other.each (length xs) (omega arith) (omega (arith, n)) ∙ take_all (length xs) ys (omega (arith, n)))
    (cases_lt (length ys) (length xs)))
    (cases_lt (length xs) (length ys))
