-- Laws of what sections have done, and of who acts.
use Rattle.std.proofs.Common.{◌≡◌, ℕ, zero, suc, ◌+◌, ◌-◌, ◌*◌, ◌^◌, ◌<◌, ◌≤◌, List, [], ◌∷◌, length, set, map, fold, get_or, slice_get, All, IsTrue, nat_lt, nat_le, Option, Some, None, refl, sym, ap, ◌∙◌, subst, arith}
use Rattle.std.specs.Ordering.{nat_cmp}
use Rattle.std.specs.BTreeMap.{insert_entry}
use Rattle.std.proofs.lemmas.Bool.{false≢true}
use Rattle.std.proofs.lemmas.Bool.Decides.{nat_tests}
use Rattle.std.proofs.lemmas.List.{length-set, length-map}
use Rattle.std.proofs.lemmas.List.Elements.{All-set, All-head, All-tail, All-cons}
use Rattle.std.proofs.lemmas.List.Sums.{sum_by-cons, sum_by-set}
use Rattle.argo_model.specs.declared.scripts.Actor.{Actor}
use Rattle.argo_model.specs.declared.scripts.DomainLine.{DomainLine}
use Rattle.argo_model.specs.declared.action.Action.{Action}
use Rattle.argo_model.specs.declared.action.Outcome.{Outcome}
use Rattle.argo_model.specs.declared.closing.Totals.{Totals}
use Rattle.argo_model.specs.Rules.Access.{is_fit_of, is_fit_at, is_within, has_steps_left, counted_of, counted_at}
use Rattle.argo_model.specs.Rules.Act.{act}
use Rattle.argo_model.specs.Rules.Fit.{is_fit_for}
use Rattle.argo_model.specs.Rules.State.{State, Domain, Live, fresh_domain, start_state}
use Rattle.argo_model.specs.Runs.Final.{totals_after, no_steps}
use Rattle.argo_model.specs.Runs.Script.{Script, Section, is_lawful}
use Rattle.section_world.specs.Young.{is_young_life, is_young_domain, IsYoung, are_shown}
use Rattle.argo_model.specs.Rules.Access.{steps_of}
use Rattle.section_world.specs.Sections.{WorldAt, IsSmall, IsWorld}
use Rattle.live_domain.proofs.EntryLaws.{all_pass-weaker, all_pass-insert_entry}
use Rattle.live_domain.proofs.TestLaws.{both, and_also}
use Rattle.live_domain.proofs.TestLaws.{le_from}
use Rattle.section_world.proofs.YoungLaws.{act_young}

le_up : (a m n : ℕ) → m ≤ n → IsTrue (nat_le a m) → IsTrue (nat_le a n)
le_up a m n up h = grind (arith, nat_tests)

life_up : (m n : ℕ) (life : Option Live) → m ≤ n → IsTrue (is_young_life m life) → IsTrue (is_young_life n life)
life_up m n None up h = refl
life_up m n (Some live) up h = le_up live.next_serial m n up h

domain_up : (m n : ℕ) → m ≤ n → (x : Domain) → IsTrue (is_young_domain m x) → IsTrue (is_young_domain n x)
domain_up m n up x h =
    let h = both (nat_le x.generation m) (is_young_life m x.life) h in
    and_also (nat_le x.generation n) (is_young_life n x.life) (le_up x.generation m n up h.0) (life_up m n x.life up h.1)

pub young_up : (m n : ℕ) (s : State) → m ≤ n → IsYoung m s → IsYoung n s
young_up m n s up young = all_pass-weaker (is_young_domain m) (is_young_domain n) (domain_up m n up) s young

-- all sections together make few steps
few_steps : (totals : List Totals) → All IsSmall totals → steps_of totals ≤ 2 ^ 32 * length totals
few_steps [] small = omega arith
few_steps (t ∷ ts) small =
    let one = (All-head IsSmall t ts small).steps in
    let rest = few_steps ts (All-tail IsSmall t ts small) in
    let sum = sum_by-cons (λ x. x.steps) t ts in
    rw sum (omega arith)

pub young_enough : (w : WorldAt) → IsWorld w → IsYoung (2 ^ 62) w.state
young_enough w is =
    let few = few_steps w.totals is.small in
    let n = is.few in
    let m = is.as_many in
    young_up (steps_of w.totals + 1) (2 ^ 62) w.state (omega arith) is.young

-- who acts as section v
pub record ActsAs (actors : List Actor) (v : ℕ) (a : Action) : Type 0 where
  pub actor : Actor
  pub here : slice_get actors v ≡ Some actor
  pub fit : IsTrue (is_fit_for actor a)

pub acts_as : (actors : List Actor) (v : ℕ) (a : Action) → IsTrue (is_fit_at actors v a) → ActsAs actors v a
acts_as actors v a fit = of (slice_get actors v) refl fit where
  of : (o : Option Actor) → slice_get actors v ≡ o → IsTrue (is_fit_of o a) → ActsAs actors v a
  of None here fit = absurd (false≢true fit)
  of (Some actor) here fit = record { actor = actor; here = here; fit = fit }

-- what section v has done
pub record HasDone (totals : List Totals) (v : ℕ) : Type 0 where
  pub done : Totals
  pub here : slice_get totals v ≡ Some done
  pub few : done.steps < 2 ^ 32

lt_from : (m n : ℕ) → IsTrue (nat_lt m n) → m < n
lt_from m n h = grind (arith, nat_tests)

pub has_done : (totals : List Totals) (v : ℕ) → IsTrue (has_steps_left totals v) → HasDone totals v
has_done totals v few = of (slice_get totals v) refl few where
  of : (o : Option Totals) → slice_get totals v ≡ o → IsTrue (is_within o) → HasDone totals v
  of None here few = absurd (false≢true few)
  of (Some t) here few = record { done = t; here = here; few = lt_from t.steps (2 ^ 32) few }

pub inside_of : {A : Type 0} (xs : List A) (i : ℕ) (x : A) → slice_get xs i ≡ Some x → i < length xs
inside_of [] i x here = cc
inside_of (y ∷ ys) zero x here = omega arith
inside_of (y ∷ ys) (suc i) x here = let h = inside_of ys i x here in omega arith

-- what is read at a place is what stands there
pub read_is : {A : Type 0} (xs : List A) (i : ℕ) (x y : A) → slice_get xs i ≡ Some x → y ≡ get_or xs i y → y ≡ x
read_is [] i x y here read = cc
read_is (z ∷ zs) zero x y here read = cc
read_is (z ∷ zs) (suc i) x y here read = read_is zs i x y here read

pub at_read : {A : Type 0} (xs : List A) (i : ℕ) (y : A) → i < length xs → y ≡ get_or xs i y → slice_get xs i ≡ Some y
at_read [] i y inside read = absurd (omega arith)
at_read (z ∷ zs) zero y inside read = ap (λ w. Some w) (sym read)
at_read (z ∷ zs) (suc i) y inside read = at_read zs i y (omega arith) read

get_is : {A : Type 0} (xs : List A) (i : ℕ) (x d : A) → slice_get xs i ≡ Some x → get_or xs i d ≡ x
get_is [] i x d here = cc
get_is (z ∷ zs) zero x d here = cc
get_is (z ∷ zs) (suc i) x d here = get_is zs i x d here

pub counted : (totals : List Totals) (v : ℕ) (t : Totals) (o : Outcome) → slice_get totals v ≡ Some t → counted_at totals v o ≡ set totals v (totals_after t o)
counted totals v t o here = ap (counted_of totals v o) here

one_step : (totals : List Totals) (v : ℕ) (t : Totals) (o : Outcome) → slice_get totals v ≡ Some t → steps_of (set totals v (totals_after t o)) ≡ steps_of totals + 1
one_step totals v t o here =
    let h = sum_by-set (λ x. x.steps) totals v (totals_after t o) t (inside_of totals v t here) in
    let g : (get_or totals v t).steps ≡ t.steps = ap (λ x. x.steps) (get_is totals v t t here) in
    omega arith

-- what always holds holds after a step of section v
pub after_step : (w : WorldAt) (v : ℕ) (t new : Totals) (actor : Actor) (a : Action) (o : Outcome) → IsWorld w → slice_get w.totals v ≡ Some t → IsSmall new → new ≡ totals_after t o
    → IsWorld (record { state = (act actor a w.state).state; actors = w.actors; totals = set w.totals v new })
after_step w v t new actor a o is here small new_is =
    let one = ap (λ x. steps_of (set w.totals v x)) new_is ∙ one_step w.totals v t o here in
    record {
      few = is.few;
      as_many = length-set w.totals v new ∙ is.as_many;
      small = All-set IsSmall w.totals v new small is.small;
      young = subst (λ n. IsYoung (n + 1) (act actor a w.state).state) (sym one) (act_young (steps_of w.totals + 1) actor a w.state is.young);
    }

shown_of : (n : ℕ) → n < 2 ^ 32 → (x : Domain) → IsTrue (is_young_domain n x) → IsTrue (nat_lt x.generation (2 ^ 32))
shown_of n few x h = less (both (nat_le x.generation n) (is_young_life n x.life) h).0 where
  less : IsTrue (nat_le x.generation n) → IsTrue (nat_lt x.generation (2 ^ 32))
  less h = grind (arith, nat_tests)

-- the generations of a young state fit their rows
pub young_shown : (n : ℕ) (s : State) → n < 2 ^ 32 → IsYoung n s → IsTrue (are_shown s)
young_shown n s few young = all_pass-weaker (is_young_domain n) (λ x. nat_lt x.generation (2 ^ 32)) (shown_of n few) s young

-- few steps leave generations that fit their rows
pub shown : (w : WorldAt) → IsWorld w → steps_of w.totals < 2 ^ 32 - 1 → IsTrue (are_shown w.state)
shown w is few = young_shown (steps_of w.totals + 1) w.state (omega arith) is.young

lines_young : (ls : List DomainLine) (s : State) → IsYoung 1 s → IsYoung 1 (fold (λ s l. insert_entry nat_cmp s l.id (fresh_domain l)) s ls)
lines_young [] s young = young
lines_young (l ∷ ls) s young =
    lines_young ls (insert_entry nat_cmp s l.id (fresh_domain l)) (all_pass-insert_entry (is_young_domain 1) nat_cmp s l.id (fresh_domain l) young refl)

pub young_start : (ls : List DomainLine) → IsYoung 1 (start_state ls)
young_start ls = lines_young ls [] refl

few_sections : (s : Script) → IsTrue (is_lawful s) → length s.sections ≤ 64
few_sections s lawful =
    let a = (both _ _ lawful).0 in
    let b = (both _ _ a).0 in
    let c = (both _ _ b).1 in
    let d = both _ _ c in
    let e = both _ _ d.0 in
    let f = both _ _ e.0 in
    le_from (length s.sections) 64 f.0

no_steps_small : (xs : List Section) → All IsSmall (map (λ x. no_steps) xs)
no_steps_small [] = λ k d below. absurd (omega arith)
no_steps_small (x ∷ xs) = All-cons IsSmall no_steps (map (λ x. no_steps) xs) (record { steps = omega arith; accepted = omega arith; bytes = omega arith }) (no_steps_small xs)

-- before the first step
starts_so : (lines : List DomainLine) (s : Script) → IsTrue (is_lawful s)
    → IsWorld (record { state = start_state lines; actors = map (λ x. x.actor) s.sections; totals = map (λ x. no_steps) s.sections })
starts_so lines s lawful =
    let few = few_sections s lawful in
    let n = length-map s.sections (λ x. x.actor) in
    record {
      few = omega arith;
      as_many = length-map s.sections (λ x. no_steps) ∙ sym n;
      small = no_steps_small s.sections;
      young = young_up 1 (steps_of (map (λ x. no_steps) s.sections) + 1) (start_state lines) (omega arith) (young_start lines);
    }

abbrev pub actors_in : List Section → List Actor
actors_in xs = map (λ x. x.actor) xs

abbrev pub none_done : List Section → List Totals
none_done xs = map (λ x. no_steps) xs

pub starts_as : (lines : List DomainLine) (s : Script) (state : State) (actors : List Actor) (totals : List Totals) → IsTrue (is_lawful s)
    → state ≡ start_state lines → actors ≡ actors_in s.sections → totals ≡ none_done s.sections
    → IsWorld (record { state = state; actors = actors; totals = totals })
starts_as lines s state actors totals lawful e f g =
    let P : State → Type 0 = λ x. IsWorld (record { state = x; actors = actors; totals = totals }) in
    let Q : List Actor → Type 0 = λ x. IsWorld (record { state = start_state lines; actors = x; totals = totals }) in
    let R : List Totals → Type 0 = λ x. IsWorld (record { state = start_state lines; actors = actors_in s.sections; totals = x }) in
    subst P (sym e) (subst Q (sym f) (subst R (sym g) (starts_so lines s lawful)))
