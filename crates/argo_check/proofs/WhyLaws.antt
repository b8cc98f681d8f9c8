-- Laws of the steps that are shown of a line.
use Rattle.std.proofs.Common.{◌≡◌, ℕ, ◌+◌, ◌^◌, ◌<◌, List, [], ◌∷◌, ◌++◌, length, slice_get, Option, Some, None, refl, sym, ap, ◌∙◌, arith, append_assoc, unwrap_or}
use Rattle.std.specs.Option.{option_map, option_and_then}
use Rattle.std.proofs.lemmas.List.{length-append, append-nil}
use Rattle.std.proofs.lemmas.List.Sums.{fold-append}
use Rattle.argo_model.specs.declared.line.Line.{Line}
use Rattle.argo_model.specs.declared.action.Action.{Action}
use Rattle.argo_model.specs.declared.action.Outcome.{Outcome}
use Rattle.argo_model.specs.Programs.Program.{Next, Do, Say, program}
use Rattle.argo_model.specs.Rules.Act.{Effect}
use Rattle.argo_model.specs.Rules.Shorts.{short_of}
use Rattle.argo_model.specs.Rules.State.{State}
use Rattle.argo_model.specs.Runs.Run.{Progress, Step, Course, Turn, start, run, step, step_of, after_turn, turn, turn_at, turn_by, turn_to}
use Rattle.argo_machine.specs.Machine.{Standing, OneStep}
use Rattle.argo_check.specs.declared.words.Place.{Place}
use Rattle.argo_check.specs.Walks.{IsWalk}
use Rattle.argo_check.specs.Why.{shown_step, shown_from}

-- one step more is shown behind the others
shown-more : (p : Place) (n : ℕ) (xs : List Step) (t : Step)
    → shown_from p n (xs ++ t ∷ []) ≡ shown_from p n xs ++ shown_step p (n + length xs) t.vcpu t.line (short_of t.outcome)
shown-more p n [] t =
    let e : n ≡ n + 0 = omega arith in
    append-nil (shown_step p n t.vcpu t.line (short_of t.outcome)) ∙ ap (λ k. shown_step p k t.vcpu t.line (short_of t.outcome)) e
shown-more p n (x ∷ xs) t =
    let e : (n + 1) + length xs ≡ n + length (x ∷ xs) = omega arith in
    let first = shown_step p n x.vcpu x.line (short_of x.outcome) in
    let rest = shown_from p (n + 1) xs in
    ap (λ ys. first ++ ys) (shown-more p (n + 1) xs t ∙ ap (λ k. rest ++ shown_step p k t.vcpu t.line (short_of t.outcome)) e)
    ∙ sym (append_assoc first rest (shown_step p (n + length (x ∷ xs)) t.vcpu t.line (short_of t.outcome)))

turned_line : (p : Progress) (rest : List Line) (a : Action) (e : Effect) (next : Next) → (turn_to p rest a e next).line ≡ p.done + 1
turned_line p rest a e (Do b) = refl
turned_line p rest a e (Say reply) = refl

same_turn : (x t : Turn) → Some x ≡ Some t → x ≡ t
same_turn x t e = cc

-- the line of a turn is the next that is not done
turn_by-line : (st : State) (p : Progress) (l : Line) (rest : List Line) (next : Next) (t : Turn) → turn_by st p l rest next ≡ Some t → t.line ≡ p.done + 1
turn_by-line st p l rest (Do a) t e = sym (ap (λ x. x.line) (same_turn _ t e)) ∙ turned_line p rest a _ _
turn_by-line st p l rest (Say reply) t e = cc

turn_at-line : (st : State) (p : Progress) (ls : List Line) (t : Turn) → turn_at st p ls ≡ Some t → t.line ≡ p.done + 1
turn_at-line st p [] t e = cc
turn_at-line st p (l ∷ rest) t e = turn_by-line st p l rest (program p.actor l p.outcomes) t e

-- a step of line k of section v with this outcome comes behind the others
pub record Joins (before : List Step) (v k : ℕ) (o : Outcome) (after : List Step) : Type 0 where
  pub one : Step
  pub behind : after ≡ before ++ one ∷ []
  pub vcpu : one.vcpu ≡ v
  pub line : one.line ≡ k
  pub outcome : one.outcome ≡ o

turned : (c : Course) (v k : ℕ) (o : Outcome) (next : Option Turn) → ((t : Turn) → next ≡ Some t → t.line ≡ k) → option_map (λ t. t.outcome) next ≡ Some o
    → Joins c.steps v k o (after_turn c v next).steps
turned c v k o None line is = cc
turned c v k o (Some t) line is = record { one = step_of v t; behind = refl; vcpu = refl; line = line t refl; outcome = cc }

stepped_at : (c : Course) (v k : ℕ) (o : Outcome) (count : Option ℕ) (at : Option Progress) → count ≡ option_map (λ p. p.done) at → k ≡ unwrap_or count 0 + 1
    → option_map (λ t. t.outcome) (option_and_then (turn c.state) at) ≡ Some o → Joins c.steps v k o (after_turn c v (option_and_then (turn c.state) at)).steps
stepped_at c v k o count None done_is line_is is = cc
stepped_at c v k o count (Some p) done_is line_is is =
    let e : p.done + 1 ≡ k = ap (λ r. unwrap_or r 0 + 1) (sym done_is) ∙ sym line_is in
    turned c v k o (turn c.state p) (λ t h. turn_at-line c.state p p.left t h ∙ e) is

module _ (p : Place) (m new : Standing) (steps v k : ℕ) (done : Option ℕ) (text : List ℕ) (o : Outcome) (walk : IsWalk p m steps text) where
  -- one step more of a walk
  pub walk_on : done ≡ option_map (λ q. q.done) (slice_get (run m.script m.schedule).sections v) → k ≡ unwrap_or done 0 + 1 → OneStep m v o new
      → IsWalk p new (steps + 1) (text ++ shown_step p (steps + 1) v k (short_of o))
  walk_on done_is line_is goes =
      let c = run m.script m.schedule in
      let e : run new.script new.schedule ≡ step c v =
      ap (λ t. run t new.schedule) goes.script ∙ ap (run m.script) goes.schedule ∙ fold-append step (start m.script) m.schedule (v ∷ []) in
      let h = stepped_at c v k o done (slice_get c.sections v) done_is line_is goes.outcome_is in
      let all : (run new.script new.schedule).steps ≡ c.steps ++ h.one ∷ [] = ap (λ x. x.steps) e ∙ h.behind in
      let n : 1 + length c.steps ≡ steps + 1 = omega (arith, walk.counted, walk.each) in
      let now : shown_step p (1 + length c.steps) h.one.vcpu h.one.line (short_of h.one.outcome) ≡ shown_step p (steps + 1) v k (short_of o) =
      ap (λ i. shown_step p i h.one.vcpu h.one.line (short_of h.one.outcome)) n ∙ ap (λ w. shown_step p (steps + 1) w h.one.line (short_of h.one.outcome)) h.vcpu
      ∙ ap (λ l. shown_step p (steps + 1) v l (short_of h.one.outcome)) h.line ∙ ap (λ x. shown_step p (steps + 1) v k (short_of x)) h.outcome in
      record {
        counted = omega (arith, walk.counted, ap length goes.schedule, length-append m.schedule (v ∷ []));
        each = omega (arith, walk.each, ap length all, length-append c.steps (h.one ∷ []), ap length goes.schedule, length-append m.schedule (v ∷ []));
        few = omega (arith, walk.few, goes.nearer);
        shown =
            ap (λ xs. xs ++ shown_step p (steps + 1) v k (short_of o)) walk.shown ∙ ap (λ xs. shown_from p 1 c.steps ++ xs) (sym now)
            ∙ sym (shown-more p 1 c.steps h.one) ∙ ap (shown_from p 1) (sym all);
      }

-- a walk before its first step
pub walk_from : (p : Place) (m : Standing) → m.schedule ≡ [] → m.left < 2 ^ 32 → IsWalk p m 0 []
walk_from p m none few =
    record {
      counted = sym (ap length none);
      each = ap (λ xs. length (run m.script xs).steps) none ∙ sym (ap length none);
      few = omega (arith, few);
      shown = sym (ap (λ xs. shown_from p 1 (run m.script xs).steps) none);
    }
