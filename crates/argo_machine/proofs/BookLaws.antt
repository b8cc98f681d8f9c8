-- Laws of what the machine writes down of its steps: the schedule in runs, the totals, and the lines that are done.
use Rattle.std.proofs.Common.{◌≡◌, ◌≢◌, ℕ, zero, suc, ◌+◌, ◌-◌, ◌<◌, ◌≤◌, List, [], ◌∷◌, ◌++◌, length, set, replicate, get_or, ⊎_elim, map, refl, sym, ap, ◌∙◌, append_assoc, arith}
use Rattle.std.proofs.lemmas.Bool.{cases_eq}
use Rattle.std.proofs.lemmas.Bool.Decides.{nat_tests}
use Rattle.std.proofs.lemmas.List.{append-nil, replicate_more, length-append, length-replicate}
use Rattle.std.proofs.lemmas.List.Sums.{fold_push}
use Rattle.std.specs.List.{range_with_len}
use Rattle.argo_model.specs.declared.closing.Run.{Run}
use Rattle.argo_model.specs.Runs.Final.{one_run, grown, runs_of, schedule_of}

same_run : (r : Run) (v : ℕ) → r.vcpu ≡ v → grown (r ∷ []) v ≡ record { vcpu = v; count = r.count + 1 } ∷ []
same_run r v e = grind (arith, nat_tests)

other_run : (r : Run) (v : ℕ) → r.vcpu ≢ v → grown (r ∷ []) v ≡ r ∷ one_run v ∷ []
other_run r v e = grind (arith, nat_tests)

-- one step more of the section of the last run
pub grown-same : (rs : List Run) (v : ℕ) (r : Run) → 0 < length rs → r ≡ get_or rs (length rs - 1) r → r.vcpu ≡ v
    → set rs (length rs - 1) (record { vcpu = v; count = r.count + 1 }) ≡ grown rs v
grown-same [] v r some here e = absurd (omega arith)
grown-same (x ∷ []) v r some here e =
    let same : r ≡ x = here in
    sym (ap (λ y. grown (y ∷ []) v) (sym same) ∙ same_run r v e)
grown-same (x ∷ y ∷ ys) v r some here e =
    let at : length (x ∷ y ∷ ys) - 1 ≡ suc (length (y ∷ ys) - 1) = omega arith in
    ap (λ i. set (x ∷ y ∷ ys) i (record { vcpu = v; count = r.count + 1 })) at
    ∙ ap (λ zs. x ∷ zs) (grown-same (y ∷ ys) v r (omega arith) (here ∙ ap (λ i. get_or (x ∷ y ∷ ys) i r) at) e)

-- and of another
pub grown-other : (rs : List Run) (v : ℕ) (r : Run) → 0 < length rs → r ≡ get_or rs (length rs - 1) r → r.vcpu ≢ v → rs ++ one_run v ∷ [] ≡ grown rs v
grown-other [] v r some here e = absurd (omega arith)
grown-other (x ∷ []) v r some here e =
    let same : r ≡ x = here in
    ap (λ y. y ∷ one_run v ∷ []) (sym same) ∙ sym (other_run r v e) ∙ ap (λ y. grown (y ∷ []) v) same
grown-other (x ∷ y ∷ ys) v r some here e =
    let at : length (x ∷ y ∷ ys) - 1 ≡ suc (length (y ∷ ys) - 1) = omega arith in
    ap (λ zs. x ∷ zs) (grown-other (y ∷ ys) v r (omega arith) (here ∙ ap (λ i. get_or (x ∷ y ∷ ys) i r) at) e)

-- the schedule has one number more
pub schedule_of-grown : (rs : List Run) (v : ℕ) → schedule_of (grown rs v) ≡ schedule_of rs ++ v ∷ []
schedule_of-grown [] v = refl
schedule_of-grown (r ∷ []) v =
    ⊎_elim (λ same. ap schedule_of (same_run r v same) ∙ append-nil (replicate (r.count + 1) v)
    ∙ sym (replicate_more r.count v)
    ∙ ap (λ w. replicate r.count w ++ v ∷ []) (sym same) ∙ ap (λ xs. xs ++ v ∷ []) (sym (append-nil (replicate r.count r.vcpu))))
    (λ other. ap schedule_of (other_run r v other)
    ∙ ap (λ xs. xs ++ v ∷ []) (sym (append-nil (replicate r.count r.vcpu))))
    (cases_eq r.vcpu v)
schedule_of-grown (r ∷ r2 ∷ rs) v =
    ap (λ xs. replicate r.count r.vcpu ++ xs) (schedule_of-grown (r2 ∷ rs) v) ∙ sym (append_assoc (replicate r.count r.vcpu) (schedule_of (r2 ∷ rs)) (v ∷ []))

map_range : {A : Type 0} (f g : ℕ → A) (from n : ℕ) → ((k : ℕ) → from ≤ k → f k ≡ g k) → map f (range_with_len from n) ≡ map g (range_with_len from n)
map_range f g from zero same = refl
map_range f g from (suc n) same =
    ap (λ y. y ∷ map f (range_with_len (from + 1) n)) (same from (omega arith))
    ∙ ap (λ ys. g from ∷ ys) (map_range f g (from + 1) n (λ k above. same k (omega arith)))

-- no run is longer than the schedule
pub count-le-schedule : (rs : List Run) (i : ℕ) (r : Run) → i < length rs → r ≡ get_or rs i r → r.count ≤ length (schedule_of rs)
count-le-schedule [] i r there here = absurd (omega arith)
count-le-schedule (x ∷ rs) zero r there here =
    let e : r.count ≡ x.count = ap (λ y. y.count) here in
    let n : length (schedule_of (x ∷ rs)) ≡ x.count + length (schedule_of rs) =
    length-append (replicate x.count x.vcpu) (schedule_of rs) ∙ ap (λ k. k + length (schedule_of rs)) (length-replicate x.count x.vcpu) in
    omega arith
count-le-schedule (x ∷ rs) (suc i) r there here =
    let less = count-le-schedule rs i r (omega arith) here in
    let n : length (schedule_of (x ∷ rs)) ≡ x.count + length (schedule_of rs) =
    length-append (replicate x.count x.vcpu) (schedule_of rs) ∙ ap (λ k. k + length (schedule_of rs)) (length-replicate x.count x.vcpu) in
    omega arith

-- the runs of one number more
pub runs_of-push : (schedule : List ℕ) (v : ℕ) → runs_of (schedule ++ v ∷ []) ≡ grown (runs_of schedule) v
runs_of-push schedule v = fold_push grown [] schedule v

-- one function for another at one place of a range
pub set-map-range : {A : Type 0} (f g : ℕ → A) (from n i : ℕ) → i < n → ((k : ℕ) → k ≢ from + i → g k ≡ f k)
    → set (map f (range_with_len from n)) i (g (from + i)) ≡ map g (range_with_len from n)
set-map-range f g from zero i inside same = absurd (omega arith)
set-map-range f g from (suc n) zero inside same =
    let at : from + 0 ≡ from = omega arith in
    ap (λ k. g k ∷ map f (range_with_len (from + 1) n)) at
    ∙ ap (λ xs. g from ∷ xs) (map_range f g (from + 1) n (λ k above. sym (same k (λ e. absurd (omega arith)))))
set-map-range f g from (suc n) (suc i) inside same =
    let at : from + suc i ≡ from + 1 + i = omega arith in
    ap (λ y. f from ∷ y) (ap (λ k. set (map f (range_with_len (from + 1) n)) i (g k)) at
    ∙ set-map-range f g (from + 1) n i (omega arith) (λ k ne. same k (λ e. ne (e ∙ at))))
    ∙ ap (λ y. y ∷ map g (range_with_len (from + 1) n)) (sym (same from (λ e. absurd (omega arith))))
