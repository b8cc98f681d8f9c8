-- Laws of the picks.
use Rattle.std.proofs.Common.{◌≡◌, ℕ, zero, suc, ◌+◌, ◌<◌, ◌≤◌, Bool, true, false, cond, eqb, List, [], ◌∷◌, ◌++◌, length, take, filter, slice_get, get_or, IsTrue, Some, refl, sym, ap, ◌∙◌, arith, rules, unwrap_or, ⊎_elim}
use Rattle.std.specs.List.{list_all, range_with_len}
use Rattle.std.proofs.lemmas.Bool.{cases_lt}
use Rattle.std.proofs.lemmas.Bool.Decides.{nat_tests}
use Rattle.std.proofs.lemmas.List.{take-append-le, length-append, append-nil}
use Rattle.std.proofs.lemmas.Option.{slice_get-get_or, slice_get_within}
use Rattle.argo_model.specs.Runs.Script.{Script}
use Rattle.argo_model.specs.Runs.Run.{run, Course, is_open, is_finished}
use Rattle.argo_machine.proofs.RunLaws.{none_unfinished, run-sections}
use Rattle.argo_base.specs.Generator.{next_number, number_after}
use Rattle.serial_run.specs.Picks.{place_by, open_sections, next_pick, EachIsPick}

cond-append : (b : Bool) (x : ℕ) (xs ys : List ℕ) → cond b (x ∷ (xs ++ ys)) (xs ++ ys) ≡ cond b (x ∷ xs) xs ++ ys
cond-append true x xs ys = refl
cond-append false x xs ys = refl

-- one number more to choose from
pub filter-more : (p : ℕ → Bool) (from n : ℕ) → filter p (range_with_len from (suc n)) ≡ filter p (range_with_len from n) ++ cond (p (from + n)) ((from + n) ∷ []) []
filter-more p from zero =
    let e : from ≡ from + 0 = omega arith in
    ap (λ m. cond (p m) (m ∷ []) []) e
filter-more p from (suc n) =
    let e : from + 1 + n ≡ from + suc n = omega arith in
    ap (λ ys. cond (p from) (from ∷ ys) ys) (filter-more p (from + 1) n)
    ∙ cond-append (p from) from (filter p (range_with_len (from + 1) n)) (cond (p (from + 1 + n)) ((from + 1 + n) ∷ []) [])
    ∙ ap (λ m. filter p (range_with_len from (suc n)) ++ cond (p m) (m ∷ []) []) e

cond-few : (b : Bool) (x : ℕ) (xs : List ℕ) (n : ℕ) → length xs ≤ n → length (cond b (x ∷ xs) xs) ≤ suc n
cond-few true x xs n few = omega (arith, few)
cond-few false x xs n few = omega (arith, few)

-- no more than there are
pub filter-few : (p : ℕ → Bool) (from n : ℕ) → length (filter p (range_with_len from n)) ≤ n
filter-few p from zero = omega arith
filter-few p from (suc n) = cond-few (p from) from (filter p (range_with_len (from + 1) n)) n (filter-few p (from + 1) n)

cond-none : (b : Bool) (x : ℕ) (xs : List ℕ) → cond b (x ∷ xs) xs ≡ [] → (b ≡ false) × (xs ≡ [])
cond-none true x xs none = let e : length (x ∷ xs) ≡ 0 = ap length none in absurd (omega arith)
cond-none false x xs none = (refl, none)

filter-none : (p : ℕ → Bool) (from n : ℕ) → filter p (range_with_len from n) ≡ [] → (i : ℕ) → i < n → p (from + i) ≡ false
filter-none p from zero none i below = absurd (omega arith)
filter-none p from (suc n) none zero below =
    let e : from + 0 ≡ from = omega arith in
    ap p e ∙ (cond-none (p from) from (filter p (range_with_len (from + 1) n)) none).0
filter-none p from (suc n) none (suc i) below =
    let e : from + suc i ≡ from + 1 + i = omega arith in
    ap p e ∙ filter-none p (from + 1) n (cond-none (p from) from (filter p (range_with_len (from + 1) n)) none).1 i (omega arith)

-- where no section is open, all are finished
pub all_finished : (c : Course) → open_sections c ≡ [] → IsTrue (list_all is_finished c.sections)
all_finished c none =
    none_unfinished c.sections (λ v below.
    let e : v ≡ 0 + v = omega arith in
    ap (is_open c) e ∙ filter-none (is_open c) 0 (length c.sections) none v below)

passes-here : (p : ℕ → Bool) (x : ℕ) (rest : List ℕ) (i v : ℕ) (b : Bool) → p x ≡ b → ((j : ℕ) → slice_get rest j ≡ Some v → p v ≡ true)
    → slice_get (cond b (x ∷ rest) rest) i ≡ Some v → p v ≡ true
passes-here p x rest i v false e later here = later i here
passes-here p x rest zero v true e later here = ap p (sym (ap (λ o. unwrap_or o x) here)) ∙ e
passes-here p x rest (suc i) v true e later here = later i here

filter-passes : (p : ℕ → Bool) (xs : List ℕ) (i v : ℕ) → slice_get (filter p xs) i ≡ Some v → p v ≡ true
filter-passes p [] i v here = let none = slice_get_within [] i v here in absurd (omega (arith, none))
filter-passes p (x ∷ xs) i v here = passes-here p x (filter p xs) i v (p x) refl (λ j. filter-passes p xs j v) here

-- what is picked is open
pub picked-open : (s : Script) (seed : ℕ) (schedule : List ℕ) (v : ℕ) → next_pick s seed schedule ≡ Some v → IsTrue (is_open (run s schedule) v)
picked-open s seed schedule v here =
    let vs = open_sections (run s schedule) in
    let h = filter-passes (is_open (run s schedule)) (range_with_len 0 (length (run s schedule).sections)) (place_by seed (number_after seed (length schedule + 1)) (length vs)) v here in
    search (h, rules)

at-end : (xs : List ℕ) (v i : ℕ) → i ≡ length xs → slice_get (xs ++ v ∷ []) i ≡ Some v
at-end [] v zero here = refl
at-end [] v (suc i) here = absurd (omega arith)
at-end (x ∷ xs) v zero here = absurd (omega arith)
at-end (x ∷ xs) v (suc i) here = at-end xs v i (omega arith)

before-end : (xs : List ℕ) (v i : ℕ) → i < length xs → slice_get (xs ++ v ∷ []) i ≡ slice_get xs i
before-end [] v i below = absurd (omega arith)
before-end (x ∷ xs) v zero below = refl
before-end (x ∷ xs) v (suc i) below = before-end xs v i (omega arith)

take-end : (xs : List ℕ) (v i : ℕ) → i ≡ length xs → take i (xs ++ v ∷ []) ≡ xs
take-end [] v zero here = refl
take-end [] v (suc i) here = absurd (omega arith)
take-end (x ∷ xs) v zero here = absurd (omega arith)
take-end (x ∷ xs) v (suc i) here = ap (λ ys. x ∷ ys) (take-end xs v i (omega arith))

-- one pick more
pub one-more : (s : Script) (seed : ℕ) (schedule : List ℕ) (v : ℕ) → EachIsPick s seed schedule → next_pick s seed schedule ≡ Some v → EachIsPick s seed (schedule ++ v ∷ [])
one-more s seed schedule v each here i below =
    let n = length-append schedule (v ∷ []) in
    ⊎_elim
    (λ lower. before-end schedule v i lower ∙ each i lower ∙ ap (next_pick s seed) (sym (take-append-le i schedule (v ∷ []) (omega (arith, lower)))))
    (λ upper.
    let last : i ≡ length schedule = omega (arith, n, upper, below) in
    at-end schedule v i last ∙ sym here ∙ ap (next_pick s seed) (sym (take-end schedule v i last)))
    (cases_lt i (length schedule))

-- the generator has turned once more
pub number-turned : (seed number next v : ℕ) (schedule longer : List ℕ) → number ≡ number_after seed (length schedule) → next ≡ next_number number
    → longer ≡ schedule ++ v ∷ [] → next ≡ number_after seed (length longer)
number-turned seed number next v schedule longer turned turns more =
    let n : length longer ≡ suc (length schedule) = ap length more ∙ length-append schedule (v ∷ []) ∙ omega arith in
    turns ∙ ap next_number turned ∙ sym (ap (number_after seed) n)

-- what is read at the generator's place is the pick
pub pick-made : (s : Script) (seed seed0 old number place count v : ℕ) (schedule vs : List ℕ) → old ≡ number_after seed (length schedule) → number ≡ next_number old
    → seed0 ≡ seed → vs ≡ open_sections (run s schedule) → count ≡ length vs → place ≡ place_by seed0 number count → place < count → v ≡ get_or vs place v
    → next_pick s seed schedule ≡ Some v
pick-made s seed seed0 old number place count v schedule vs turned turns seeded ready counted here inside read =
    let e : length schedule + 1 ≡ suc (length schedule) = omega arith in
    let number_is : number ≡ number_after seed (length schedule + 1) = turns ∙ ap next_number turned ∙ sym (ap (number_after seed) e) in
    let same : place ≡ place_by seed (number_after seed (length schedule + 1)) (length (open_sections (run s schedule))) =
    here ∙ ap (λ x. place_by x number count) seeded ∙ ap (λ n. place_by seed n count) number_is
    ∙ ap (place_by seed (number_after seed (length schedule + 1))) (counted ∙ ap length ready) in
    sym (ap (slice_get (open_sections (run s schedule))) same) ∙ sym (ap (λ xs. slice_get xs place) ready)
    ∙ slice_get-get_or vs place v (omega (arith, inside, counted)) ∙ ap Some (sym read)

-- the open sections of a run, as they are listed
pub ready-of : (s t : Script) (schedule : List ℕ) (count : ℕ) (vs : List ℕ) → t ≡ s → count ≡ length s.sections
    → vs ≡ filter (is_open (run t schedule)) (range_with_len 0 count) → vs ≡ open_sections (run s schedule)
ready-of s t schedule count vs same counted listed =
    listed ∙ ap (λ u. filter (is_open (run u schedule)) (range_with_len 0 count)) same
    ∙ ap (λ n. filter (is_open (run s schedule)) (range_with_len 0 n)) (counted ∙ sym (run-sections s schedule))

pub zero-where : (n : ℕ) → true ≡ eqb n 0 → n ≡ 0
zero-where n same = grind (arith, nat_tests)

pub none-left : (vs : List ℕ) → length vs ≡ 0 → vs ≡ []
none-left [] none = refl
none-left (v ∷ vs) none = absurd (omega (arith, none))

-- the section that was looked at is listed where it is open
pub listed-more : (p : ℕ → Bool) (n : ℕ) (xs ys : List ℕ) → xs ≡ filter p (range_with_len 0 n) → p n ≡ true → ys ≡ xs ++ n ∷ []
    → ys ≡ filter p (range_with_len 0 (n + 1))
listed-more p n xs ys listed passes more =
    let e : suc n ≡ n + 1 = omega arith in
    let at : 0 + n ≡ n = omega arith in
    more ∙ ap (λ zs. zs ++ n ∷ []) listed
    ∙ ap (λ b. filter p (range_with_len 0 n) ++ cond b (n ∷ []) []) (sym passes)
    ∙ ap (λ m. filter p (range_with_len 0 n) ++ cond (p m) (m ∷ []) []) (sym at)
    ∙ sym (filter-more p 0 n) ∙ ap (λ m. filter p (range_with_len 0 m)) e

pub listed-same : (p : ℕ → Bool) (n : ℕ) (xs ys : List ℕ) → xs ≡ filter p (range_with_len 0 n) → p n ≡ false → ys ≡ xs
    → ys ≡ filter p (range_with_len 0 (n + 1))
listed-same p n xs ys listed fails same =
    let e : suc n ≡ n + 1 = omega arith in
    let at : 0 + n ≡ n = omega arith in
    same ∙ listed ∙ sym (append-nil (filter p (range_with_len 0 n)))
    ∙ ap (λ b. filter p (range_with_len 0 n) ++ cond b (n ∷ []) []) (sym fails)
    ∙ ap (λ m. filter p (range_with_len 0 n) ++ cond (p m) (m ∷ []) []) (sym at)
    ∙ sym (filter-more p 0 n) ∙ ap (λ m. filter p (range_with_len 0 m)) e

pub open-where : (b : Bool) → (b ≡ false → IsTrue false) → b ≡ true
open-where true h = refl
open-where false h = absurd (search (h refl, rules))
