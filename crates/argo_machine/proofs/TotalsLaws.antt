-- Laws of the totals of the sections, after one step more and of all steps.
use Rattle.std.proofs.Common.{◌≡◌, ◌≢◌, ℕ, zero, suc, ◌+◌, ◌<◌, ◌≤◌, Bool, true, false, cond, eqb, List, [], ◌∷◌, ◌++◌, length, set, map, sum_by, count_by, Some, slice_get, refl, sym, ap, ◌∙◌, arith, add-zero, if◌then◌else◌, ⊎_elim}
use Rattle.std.proofs.lemmas.Bool.{cases_eq}
use Rattle.std.proofs.lemmas.List.Sums.{sum_by-cons, sum_by_push}
use Rattle.std.specs.List.{range_with_len}
use Rattle.std.specs.Option.{option_map}
use Rattle.argo_model.specs.declared.action.Outcome.{Outcome}
use Rattle.argo_model.specs.declared.closing.Totals.{Totals}
use Rattle.argo_model.specs.Rules.Access.{counted_of, counted_at}
use Rattle.argo_model.specs.Runs.Script.{Section}
use Rattle.argo_model.specs.Runs.Run.{Step}
use Rattle.argo_model.specs.Runs.Final.{totals_of, accepted_size, is_accepted, size_or_none, totals_after, no_steps}
use Rattle.argo_machine.proofs.BookLaws.{set-map-range}
use Rattle.argo_machine.proofs.TestLaws.{same_number, other_number}

abbrev totals_with : ℕ → ℕ → ℕ → Totals
totals_with a b c = record { steps = a; accepted = b; bytes = c }

same_totals : (a b c a2 b2 c2 : ℕ) → a ≡ a2 → b ≡ b2 → c ≡ c2 → totals_with a b c ≡ totals_with a2 b2 c2
same_totals a b c a2 b2 c2 e f g = cc

count_push : (p : Step → Bool) (steps : List Step) (x : Step) → count_by p (steps ++ x ∷ []) ≡ count_by p steps + cond (p x) 1 0
count_push p steps x = sum_by_push (λ y. cond (p y) 1 0) steps x

totals-push-same : (steps : List Step) (x : Step) (k : ℕ) → x.vcpu ≡ k → totals_of (steps ++ x ∷ []) k ≡ totals_after (totals_of steps k) x.outcome
totals-push-same steps x k e =
    let b = same_number x.vcpu k e in
    let n1 = count_push (λ t. eqb t.vcpu k) steps x ∙ ap (λ z. count_by (λ t. eqb t.vcpu k) steps + cond z 1 0) b in
    let n2 = count_push (λ t. if eqb t.vcpu k then is_accepted (accepted_size t.outcome) else false) steps x
    ∙ ap (λ z. count_by (λ t. if eqb t.vcpu k then is_accepted (accepted_size t.outcome) else false) steps + cond (if z then is_accepted (accepted_size x.outcome) else false) 1 0) b in
    let n3 = sum_by_push (λ t. if eqb t.vcpu k then size_or_none (accepted_size t.outcome) else 0) steps x
    ∙ ap (λ z. sum_by (λ t. if eqb t.vcpu k then size_or_none (accepted_size t.outcome) else 0) steps + (if z then size_or_none (accepted_size x.outcome) else 0)) b in
    same_totals _ _ _ _ _ _ n1 n2 n3

totals-push-other : (steps : List Step) (x : Step) (k : ℕ) → x.vcpu ≢ k → totals_of (steps ++ x ∷ []) k ≡ totals_of steps k
totals-push-other steps x k e =
    let b = other_number x.vcpu k e in
    let n1 = count_push (λ t. eqb t.vcpu k) steps x ∙ ap (λ z. count_by (λ t. eqb t.vcpu k) steps + cond z 1 0) b ∙ add-zero _ in
    let n2 = count_push (λ t. if eqb t.vcpu k then is_accepted (accepted_size t.outcome) else false) steps x
    ∙ ap (λ z. count_by (λ t. if eqb t.vcpu k then is_accepted (accepted_size t.outcome) else false) steps + cond (if z then is_accepted (accepted_size x.outcome) else false) 1 0) b ∙ add-zero _ in
    let n3 = sum_by_push (λ t. if eqb t.vcpu k then size_or_none (accepted_size t.outcome) else 0) steps x
    ∙ ap (λ z. sum_by (λ t. if eqb t.vcpu k then size_or_none (accepted_size t.outcome) else 0) steps + (if z then size_or_none (accepted_size x.outcome) else 0)) b ∙ add-zero _ in
    same_totals _ _ _ _ _ _ n1 n2 n3

-- the totals after one step more of section v
pub totals-set : (steps : List Step) (x : Step) (n v : ℕ) → x.vcpu ≡ v → v < n
    → set (map (totals_of steps) (range_with_len 0 n)) v (totals_after (totals_of steps v) x.outcome) ≡ map (totals_of (steps ++ x ∷ [])) (range_with_len 0 n)
totals-set steps x n v same inside =
    let at : 0 + v ≡ v = omega arith in
    ap (set (map (totals_of steps) (range_with_len 0 n)) v) (sym (totals-push-same steps x v same) ∙ ap (totals_of (steps ++ x ∷ [])) (sym at))
    ∙ set-map-range (totals_of steps) (totals_of (steps ++ x ∷ [])) 0 n v inside (λ k ne. totals-push-other steps x k (λ e. ne (sym e ∙ same ∙ sym at)))

pub slice_get-map-range : {A : Type 0} (f : ℕ → A) (from n i : ℕ) → i < n → slice_get (map f (range_with_len from n)) i ≡ Some (f (from + i))
slice_get-map-range f from zero i inside = absurd (omega arith)
slice_get-map-range f from (suc n) zero inside = let at : from ≡ from + 0 = omega arith in ap (λ k. Some (f k)) at
slice_get-map-range f from (suc n) (suc i) inside =
    let at : from + 1 + i ≡ from + suc i = omega arith in
    slice_get-map-range f (from + 1) n i (omega arith) ∙ ap (λ k. Some (f k)) at

pub zero_add : (n : ℕ) → 0 + n ≡ n
zero_add n = omega arith

some-number : (a b : ℕ) → Some b ≡ Some a → a ≡ b
some-number a b e = cc

-- the number of a section's step is one more than the steps that it had
pub step_number : (steps : List Step) (y : Step) (n v k : ℕ) → v < n → option_map (λ t. t.steps) (slice_get (map (totals_of (steps ++ y ∷ [])) (range_with_len 0 n)) v) ≡ Some k
    → y.vcpu ≡ v → k ≡ count_by (λ t. eqb t.vcpu v) steps + 1
step_number steps y n v k inside here same =
    let at : slice_get (map (totals_of (steps ++ y ∷ [])) (range_with_len 0 n)) v ≡ Some (totals_of (steps ++ y ∷ []) v) =
    slice_get-map-range (totals_of (steps ++ y ∷ [])) 0 n v inside ∙ ap (λ i. Some (totals_of (steps ++ y ∷ []) i)) (zero_add v) in
    let e : Some (totals_of (steps ++ y ∷ []) v).steps ≡ Some k = sym (ap (λ t. option_map (λ z. z.steps) t) at) ∙ here in
    some-number k (totals_of (steps ++ y ∷ []) v).steps e ∙ ap (λ t. t.steps) (totals-push-same steps y v same)

-- the totals that a world has after a step of section v
pub counted : (steps : List Step) (n v : ℕ) (o : Outcome) → v < n
    → counted_at (map (totals_of steps) (range_with_len 0 n)) v o ≡ set (map (totals_of steps) (range_with_len 0 n)) v (totals_after (totals_of steps v) o)
counted steps n v o inside =
    let ts = map (totals_of steps) (range_with_len 0 n) in
    let at : slice_get ts v ≡ Some (totals_of steps v) = slice_get-map-range (totals_of steps) 0 n v inside ∙ ap (λ k. Some (totals_of steps k)) (zero_add v) in
    ap (counted_of ts v o) at

at_most_one : (b : Bool) → cond b 1 0 ≤ 1
at_most_one true = omega arith
at_most_one false = omega arith

none_past : (n from x : ℕ) → x < from → sum_by (λ k. cond (eqb x k) 1 0) (range_with_len from n) ≡ 0
none_past zero from x past = refl
none_past (suc n) from x past =
    let h = none_past n (from + 1) x (omega arith) in
    rw (sum_by-cons, other_number x from (λ e. absurd (omega arith))) (omega arith)

pub count-le : (p : Step → Bool) (steps : List Step) → count_by p steps ≤ length steps
count-le p [] = omega arith
count-le p (x ∷ xs) = let h = count-le p xs in let b = at_most_one (p x) in rw sum_by-cons (omega arith)

one_at_most : (n from x : ℕ) → sum_by (λ k. cond (eqb x k) 1 0) (range_with_len from n) ≤ 1
one_at_most zero from x = omega arith
one_at_most (suc n) from x = rw sum_by-cons
    (⊎_elim
    (λ same. let z = none_past n (from + 1) x (omega arith) in rw (same_number x from same) (omega arith))
    (λ other. let h = one_at_most n (from + 1) x in rw (other_number x from other) (omega arith))
    (cases_eq x from))

steps_of_none : (n from : ℕ) → sum_by (λ t. t.steps) (map (totals_of []) (range_with_len from n)) ≡ 0
steps_of_none zero from = refl
steps_of_none (suc n) from = rw sum_by-cons (let h = steps_of_none n (from + 1) in omega arith)

more_steps : (n from : ℕ) (x : Step) (xs : List Step) → sum_by (λ t. t.steps) (map (totals_of (x ∷ xs)) (range_with_len from n))
    ≡ sum_by (λ k. cond (eqb x.vcpu k) 1 0) (range_with_len from n) + sum_by (λ t. t.steps) (map (totals_of xs) (range_with_len from n))
more_steps zero from x xs = refl
more_steps (suc n) from x xs =
    let h = more_steps n (from + 1) x xs in
    let one : (totals_of (x ∷ xs) from).steps ≡ cond (eqb x.vcpu from) 1 0 + (totals_of xs from).steps = sum_by-cons (λ t. cond (eqb t.vcpu from) 1 0) x xs in
    let a = sum_by-cons (λ t. t.steps) (totals_of (x ∷ xs) from) (map (totals_of (x ∷ xs)) (range_with_len (from + 1) n)) in
    let b = sum_by-cons (λ k. cond (eqb x.vcpu k) 1 0) from (range_with_len (from + 1) n) in
    let d = sum_by-cons (λ t. t.steps) (totals_of xs from) (map (totals_of xs) (range_with_len (from + 1) n)) in
    rw (a, b, d) (omega arith)

pub all_steps : (n : ℕ) (steps : List Step) → sum_by (λ t. t.steps) (map (totals_of steps) (range_with_len 0 n)) ≤ length steps
all_steps n [] = let z = steps_of_none n 0 in omega arith
all_steps n (x ∷ xs) =
    let m = more_steps n 0 x xs in
    let one = one_at_most n 0 x.vcpu in
    let h = all_steps n xs in
    omega arith

pub zero_totals : (xs : List Section) (from : ℕ) → map (λ x. no_steps) xs ≡ map (totals_of []) (range_with_len from (length xs))
zero_totals [] from = refl
zero_totals (x ∷ xs) from = ap (λ ts. no_steps ∷ ts) (zero_totals xs (from + 1))
