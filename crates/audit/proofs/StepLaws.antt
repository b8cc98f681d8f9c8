-- Laws of the steps that are compared.
use Rattle.std.proofs.Common.{◌≡◌, ℕ, zero, suc, ◌+◌, ◌<◌, ◌≤◌, Bool, true, false, if◌then◌else◌, ◌&&◌, ◌==◌, List, [], ◌∷◌, ◌++◌, length, map, take, slice_get, slice_index_or, get_or, All, IsTrue, Option, Some, None, refl, sym, ap, ◌∙◌, subst, arith}
use Rattle.std.specs.List.{list_all}
use Rattle.std.specs.Option.{option_and_then, option_map, is_some, unwrap_or}
use Rattle.std.proofs.lemmas.Bool.{false≢true}
use Rattle.std.proofs.lemmas.Bool.Decides.{nat_tests}
use Rattle.std.proofs.lemmas.List.{take_all, length-map}
use Rattle.std.proofs.lemmas.Option.{slice_get-get_or}
use Rattle.argo_model.specs.declared.action.Outcome.{Outcome}
use Rattle.argo_model.specs.declared.line.Line.{Line}
use Rattle.argo_model.specs.declared.short.Short.{Short}
use Rattle.argo_model.specs.Rules.Shorts.{short_of, no_step}
use Rattle.argo_model.specs.Rules.State.{State}
use Rattle.argo_model.specs.Runs.Script.{Script}
use Rattle.argo_model.specs.Runs.Run.{Progress, Course, Turn, run, next_turn, turn, turn_at, is_open, is_unfinished, is_finished, has_lines}
use Rattle.argo_board.specs.declared.entry.Entry.{Entry}
use Rattle.argo_board.specs.Journal.{last_tag}
use Rattle.argo_machine.specs.Machine.{Standing, OneStep}
use Rattle.argo_machine.proofs.RunLaws.{none_unfinished, run-sections}
use Rattle.audit.specs.declared.split.Split.{Split}
use Rattle.audit.specs.Entries.{schedule_in, turn_short, next_short, is_same, shorts_differ, entry_differs, entry_at, open_at, first_open}
use Rattle.audit.specs.First.{first_below}
use Rattle.audit.specs.Steps.{HasOutcome, Next, Followed, FollowedAll, AllFinished}
use Rattle.audit.proofs.FirstLaws.{none_at}

no_turn_at : (st : State) (p : Progress) (ls : List Line) → has_lines ls ≡ false → turn_at st p ls ≡ None
no_turn_at st p [] none = refl
no_turn_at st p (l ∷ ls) none = absurd (false≢true (sym none))

no_turn : (st : State) (o : Option Progress) → is_unfinished o ≡ false → option_and_then (turn st) o ≡ None
no_turn st None none = refl
no_turn st (Some p) none = no_turn_at st p p.left none

-- a section that is finished makes no step
pub finished_short : (c : Course) (v : ℕ) → is_open c v ≡ false → no_step ≡ next_short c v
finished_short c v none = sym (ap turn_short (no_turn c.state (slice_get c.sections v) none))

outcome_short : (t : Option Turn) (o : Outcome) → option_map (λ x. x.outcome) t ≡ Some o → short_of o ≡ turn_short t
outcome_short None o is = cc
outcome_short (Some t) o is = ap (λ p. short_of (unwrap_or p o)) (sym is)

-- the machine's step comes to its outcome
pub made_next : (old new : Standing) (v : ℕ) (o : Outcome) → OneStep old v o new → Next old v (short_of o) new
made_next old new v o one =
    record {
      short_is = outcome_short (next_turn (run old.script old.schedule) v) o one.outcome_is;
      script = one.script;
      goes = λ _. one.schedule;
    }

-- where a section is finished, there is no step
pub no_next : (m : Standing) (v : ℕ) → is_open (run m.script m.schedule) v ≡ false → Next m v no_step m
no_next m v none =
    record { short_is = finished_short (run m.script m.schedule) v none; script = refl; goes = λ few. absurd (omega (arith, few)) }

pub open_where : (b : Bool) → (b ≡ false → ⊥) → IsTrue b
open_where true h = refl
open_where false h = absurd (h refl)

-- one number more of a schedule
take-next : (es : List Entry) (k : ℕ) (e : Entry) → slice_get es k ≡ Some e → take (suc k) (schedule_in es) ≡ take k (schedule_in es) ++ e.vcpu ∷ []
take-next [] k e at = cc
take-next (x ∷ xs) zero e at = ap (λ o. (unwrap_or o e).vcpu ∷ []) at
take-next (x ∷ xs) (suc k) e at = ap (λ ys. x.vcpu ∷ ys) (take-next xs k e at)

same_tags : (x y : Short) → is_same x y ≡ true → x.tag ≡ y.tag
same_tags x y same = grind (arith, nat_tests)

not_some : (b : Bool) (x : Split) → is_some (if b then None else Some x) ≡ false → b ≡ true
not_some true x none = refl
not_some false x none = absurd (false≢true (sym none))

module _ (s : Script) (es : List Entry) (k : ℕ) (e : Entry) (old : Standing) (below : k < length es) (is : e ≡ get_or es k e) (before : Followed s es k old) where
  at-place : slice_get es k ≡ Some e
  at-place = slice_get-get_or es k e below ∙ ap Some (sym is)

  stands : run old.script old.schedule ≡ run s (take k (schedule_in es))
  stands = ap (λ t. run t old.schedule) before.script ∙ ap (run s) before.schedule

  -- an entry is compared with the machine's next step
  pub entry_is : (short : Short) (new : Standing) → Next old e.vcpu short new → shorts_differ (k + 1) e.short short ≡ entry_at s es k
  entry_is short new next =
      ap (shorts_differ (k + 1) e.short) (next.short_is ∙ ap (λ c. next_short c e.vcpu) stands) ∙ sym (ap (entry_differs s es k) at-place)

  -- which it made, where both come to the same
  pub entry_goes : (short : Short) (new : Standing) → Next old e.vcpu short new → All HasOutcome es
      → is_some (shorts_differ (k + 1) e.short short) ≡ false → Followed s es (k + 1) new
  entry_goes short new next outcomes none =
      let same = same_tags e.short short (not_some (is_same e.short short) _ none) in
      let P : Entry → Type 0 = λ x. x.short.tag ≤ last_tag in
      let few : e.short.tag ≤ last_tag = subst P (sym is) (outcomes k e below) in
      let Q : ℕ → Type 0 = λ n. n ≤ last_tag in
      let made = next.goes (subst Q same few) in
      let one : suc k ≡ k + 1 = omega arith in
      record {
        script = next.script ∙ before.script;
        schedule = made ∙ ap (λ xs. xs ++ e.vcpu ∷ []) before.schedule ∙ sym (take-next es k e at-place) ∙ ap (λ n. take n (schedule_in es)) one;
      }

some_where : (b : Bool) (v : ℕ) → (b ≡ false → ⊥) → (let o : Option ℕ = Some v in o) ≡ (if b then Some v else None)
some_where true v h = refl
some_where false v h = absurd (h refl)

none_where : (b : Bool) (v : ℕ) → b ≡ false → (let o : Option ℕ = None in o) ≡ (if b then Some v else None)
none_where true v none = absurd (false≢true (sym none))
none_where false v none = refl

-- nothing is found of a section that is finished
closed_where : (b : Bool) (v : ℕ) → (let o : Option ℕ = if b then Some v else None in o) ≡ None → b ≡ false
closed_where true v none = cc
closed_where false v none = refl

-- where no section is open, all are finished
pub all_finished : (m : Standing) → first_open (run m.script m.schedule) ≡ None → AllFinished m
all_finished m none =
    let c = run m.script m.schedule in
    none_unfinished c.sections (λ v below. closed_where (is_open c v) v (none_at (open_at c) (length c.sections) v none below))

-- a section that is open is the first
pub open_here : (c : Course) (v : ℕ) → (is_open c v ≡ false → ⊥) → Some v ≡ open_at c v
open_here c v h = some_where (is_open c v) v h

pub closed_here : (c : Course) (v : ℕ) → is_open c v ≡ false → None ≡ open_at c v
closed_here c v none = none_where (is_open c v) v none

-- the steps of all entries
pub followed_all : (s : Script) (es : List Entry) (k : ℕ) (m : Standing) → Followed s es k m → length es ≤ k → FollowedAll s es m
followed_all s es k m f past =
    record {
      script = f.script;
      schedule = f.schedule ∙ take_all k (schedule_in es) (omega (arith, past, length-map es (λ (e : Entry). e.vcpu)));
    }
