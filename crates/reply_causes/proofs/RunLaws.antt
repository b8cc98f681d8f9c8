-- The transitions of a line of a run are steps of the line, from its first on.
use Rattle.std.proofs.Common.{◌≡◌, ℕ, zero, suc, ◌+◌, ◌==◌, ◌≤◌, ◌≢◌, Bool, true, false, cond, ◌&&◌, List, [], ◌∷◌, ◌++◌, slice_get, slice_set, Option, Some, None, refl, sym, ap, ◌∙◌, subst, arith, append_assoc, append-nil}
use Rattle.std.specs.Prelude.{option_and_then, option_map, option_to_list}
use Rattle.std.proofs.lemmas.Bool.Decides.{nat_tests}
use Rattle.argo_model.specs.declared.scripts.Actor.{Actor}
use Rattle.argo_model.specs.declared.line.Line.{Line}
use Rattle.argo_model.specs.declared.action.Action.{Action}
use Rattle.argo_model.specs.declared.action.Outcome.{Outcome}
use Rattle.argo_model.specs.declared.reply.Reply.{Reply}
use Rattle.argo_model.specs.Rules.Act.{Effect, act}
use Rattle.argo_model.specs.Programs.Program.{Next, Do, Say, Rests, program}
use Rattle.argo_model.specs.Runs.Run.{Progress, Turn, Course, turn, turn_at, turn_by, turn_to, after_turn, step}
use Rattle.argo_model.specs.Laws.Transitions.{Transition, transition_of, transition_at, transitions_from, transitions_of_line}
use Rattle.reply_causes.specs.Plays.{IsStepOf, Plays, reply_in}
use Rattle.reply_causes.proofs.TestLaws.{same-eqb, both_hold}

-- an element that is written is there, and the others are as they were
pub get-written : {A : Type 0} (xs : List A) (v : ℕ) (x y : A) → slice_get xs v ≡ Some x → slice_get (slice_set xs v y) v ≡ Some y
get-written [] v x y h = cc
get-written (z ∷ zs) zero x y h = refl
get-written (z ∷ zs) (suc v) x y h = get-written zs v x y h

pub get-others : {A : Type 0} (xs : List A) (u v : ℕ) (y : A) → u ≢ v → slice_get (slice_set xs u y) v ≡ slice_get xs v
get-others [] u v y h = refl
get-others (z ∷ zs) zero zero y h = absurd (h refl)
get-others (z ∷ zs) zero (suc v) y h = refl
get-others (z ∷ zs) (suc u) zero y h = refl
get-others (z ∷ zs) (suc u) (suc v) y h = get-others zs u v y (λ same. h (ap suc same))

-- the steps of two programs that do the same are the same
pub plays-same : (actor : Actor) (k l : Rests) (ts : List Transition) → ((os : List Outcome) → k os ≡ l os) → Plays actor k ts → Plays actor l ts
plays-same actor k l [] same h = tt
plays-same actor k l (t ∷ ts) same h = (
  record {
    by_actor = h.0.by_actor;
    next = sym (same []) ∙ h.0.next;
    outcome = h.0.outcome;
    after = h.0.after;
    reply = h.0.reply ∙ ap reply_in (same (t.step.outcome ∷ []));
  },
  plays-same actor (λ os. k (t.step.outcome ∷ os)) (λ os. l (t.step.outcome ∷ os)) ts (λ os. same (t.step.outcome ∷ os)) h.1,
)

-- the transitions of a line from a course on
abbrev pub from : Course → List ℕ → ℕ → ℕ → List Transition
from c vs v k = transitions_of_line v k (transitions_from c vs)

abbrev is_of : ℕ → ℕ → Transition → Bool
is_of v k d = (d.step.vcpu == v) && (d.step.line == k)

-- what a line that is left still does
abbrev pub still : Progress → ℕ → Line → Rests
still p zero line os = program p.actor line (p.outcomes ++ os)
still p (suc i) line os = program p.actor line os

-- from a course on, a section makes no more steps of lines that are done, and steps of those that are left
pub record IsAhead (c : Course) (vs : List ℕ) (v : ℕ) (p : Progress) : Type 0 where
  pub done : (k : ℕ) → k ≤ p.done → from c vs v k ≡ []
  pub left : (i : ℕ) (line : Line) → slice_get p.left i ≡ Some line → Plays p.actor (still p i line) (from c vs v (p.done + 1 + i))

-- where the same transitions follow, the same holds
ahead-same : (c d : Course) (vs ws : List ℕ) (v : ℕ) (p : Progress) → ((k : ℕ) → from c vs v k ≡ from d ws v k) → IsAhead d ws v p → IsAhead c vs v p
ahead-same c d vs ws v p same h =
    record {
      done = λ k few. same k ∙ h.done k few;
      left = λ i line here. let P : List Transition → Type 0 = λ ts. Plays p.actor (still p i line) ts in subst P (sym (same (p.done + 1 + i))) (h.left i line here);
    }

-- the course after a turn
abbrev pub turned : Course → ℕ → Turn → Course
turned c v t = after_turn c v (Some t)

from-idle : (c : Course) (u v k : ℕ) (us : List ℕ) → transition_at c u ≡ None → step c u ≡ c → from c (u ∷ us) v k ≡ from c us v k
from-idle c u v k us none same =
    ap (λ o. transitions_of_line v k (option_to_list o ++ transitions_from (step c u) us)) none ∙ ap (λ d. from d us v k) same

from-turned : (c : Course) (u v k : ℕ) (us : List ℕ) (d : Transition) (t : Turn) → transition_at c u ≡ Some d → step c u ≡ turned c u t
    → from c (u ∷ us) v k ≡ cond (is_of v k d) (d ∷ from (turned c u t) us v k) (from (turned c u t) us v k)
from-turned c u v k us d t here same =
    ap (λ o. transitions_of_line v k (option_to_list o ++ transitions_from (step c u) us)) here
    ∙ ap (λ e. cond (is_of v k d) (d ∷ from e us v k) (from e us v k)) same

not_both : (a b : Bool) → a ≡ false → (a && b) ≡ false
not_both a b h = ap (λ x. x && b) h

-- a step of another section
ahead-other : (c : Course) (u v : ℕ) (us : List ℕ) (p : Progress) → u ≢ v → slice_get c.sections v ≡ Some p
    → ((d : Course) → slice_get d.sections v ≡ Some p → IsAhead d us v p) → IsAhead c (u ∷ us) v p
ahead-other c u v us p other here rest = by (slice_get c.sections u) refl where
  different : (u == v) ≡ false
  different = grind (arith, nat_tests)

  turns : (q : Progress) → slice_get c.sections u ≡ Some q → (t : Option Turn) → turn c.state q ≡ t → IsAhead c (u ∷ us) v p
  turns q there None none =
      ahead-same c c (u ∷ us) us v p (λ k. from-idle c u v k us
      (ap (λ o. option_and_then (λ p. option_map (transition_of c.state u p) (turn c.state p)) o) there ∙ ap (option_map (transition_of c.state u q)) none)
      (ap (λ o. after_turn c u (option_and_then (turn c.state) o)) there ∙ ap (after_turn c u) none)) (rest c here)
  turns q there (Some t) some =
      ahead-same c (turned c u t) (u ∷ us) us v p (λ k. from-turned c u v k us (transition_of c.state u q t) t
      (ap (λ o. option_and_then (λ p. option_map (transition_of c.state u p) (turn c.state p)) o) there ∙ ap (option_map (transition_of c.state u q)) some)
      (ap (λ o. after_turn c u (option_and_then (turn c.state) o)) there ∙ ap (after_turn c u) some)
      ∙ ap (λ b. cond b (transition_of c.state u q t ∷ from (turned c u t) us v k) (from (turned c u t) us v k)) (not_both (u == v) (t.line == k) different))
      (rest (turned c u t) (get-others c.sections u v t.progress other ∙ here))

  by : (o : Option Progress) → slice_get c.sections u ≡ o → IsAhead c (u ∷ us) v p
  by None there =
      ahead-same c c (u ∷ us) us v p (λ k. from-idle c u v k us
      (ap (λ o. option_and_then (λ p. option_map (transition_of c.state u p) (turn c.state p)) o) there)
      (ap (λ o. after_turn c u (option_and_then (turn c.state) o)) there)) (rest c here)
  by (Some q) there = turns q there (turn c.state q) refl

-- a section that makes no step
ahead-idle : (c : Course) (v : ℕ) (us : List ℕ) (p : Progress) → slice_get c.sections v ≡ Some p → turn c.state p ≡ None → IsAhead c us v p → IsAhead c (v ∷ us) v p
ahead-idle c v us p here none rest =
    ahead-same c c (v ∷ us) us v p (λ k. from-idle c v v k us
    (ap (λ o. option_and_then (λ p. option_map (transition_of c.state v p) (turn c.state p)) o) here ∙ ap (option_map (transition_of c.state v p)) none)
    (ap (λ o. after_turn c v (option_and_then (turn c.state) o)) here ∙ ap (after_turn c v) none)) rest

-- the step of a section is one of its line, and those of its other lines are those that follow
record IsTurn (c : Course) (v : ℕ) (us : List ℕ) (p : Progress) (t : Turn) : Type 0 where
  of_line : from c (v ∷ us) v (p.done + 1) ≡ transition_of c.state v p t ∷ from (turned c v t) us v (p.done + 1)
  of_others : (k : ℕ) → k ≢ p.done + 1 → from c (v ∷ us) v k ≡ from (turned c v t) us v k

is_turn : (c : Course) (v : ℕ) (us : List ℕ) (p : Progress) (t : Turn) → slice_get c.sections v ≡ Some p → turn c.state p ≡ Some t → t.line ≡ p.done + 1 → IsTurn c v us p t
is_turn c v us p t here some line =
    let d = transition_of c.state v p t in
    let transition : transition_at c v ≡ Some d =
    ap (λ o. option_and_then (λ p. option_map (transition_of c.state v p) (turn c.state p)) o) here ∙ ap (option_map (transition_of c.state v p)) some in
    let course : step c v ≡ turned c v t = ap (λ o. after_turn c v (option_and_then (turn c.state) o)) here ∙ ap (after_turn c v) some in
    record {
      of_line = from-turned c v v (p.done + 1) us d t transition course
          ∙ ap (λ b. cond b (d ∷ from (turned c v t) us v (p.done + 1)) (from (turned c v t) us v (p.done + 1))) (both_hold (v == v) (t.line == p.done + 1) (same-eqb v v refl) (same-eqb t.line (p.done + 1) line));
      of_others = λ k other. from-turned c v v k us d t transition course
          ∙ ap (λ b. cond b (d ∷ from (turned c v t) us v k) (from (turned c v t) us v k))
          (let differs : (t.line == k) ≡ false = (let e = line in grind (arith, nat_tests)) in ap (λ b. (v == v) && b) differs ∙ not_last (v == v));
    } where
      not_last : (b : Bool) → (b && false) ≡ false
      not_last true = refl
      not_last false = refl

-- a line that is not the first has had no outcomes
pub still-fresh : (p : Progress) (i : ℕ) (line : Line) (os : List Outcome) → p.outcomes ≡ [] → still p i line os ≡ program p.actor line os
still-fresh p zero line os none = ap (λ xs. program p.actor line (xs ++ os)) none
still-fresh p (suc i) line os none = refl

-- a section that makes a step of the first line that is left
ahead-turn : (c : Course) (v : ℕ) (us : List ℕ) (p : Progress) (line : Line) (rest : List Line) (a : Action) → slice_get c.sections v ≡ Some p → p.left ≡ line ∷ rest
    → program p.actor line p.outcomes ≡ Do a
    → ((d : Course) (q : Progress) → slice_get d.sections v ≡ Some q → IsAhead d us v q) → IsAhead c (v ∷ us) v p
ahead-turn c v us p line rest a here lines next later = by (program p.actor line (p.outcomes ++ e.outcome ∷ [])) refl where
  e : Effect
  e = act p.actor a c.state

  turns : (n : Next) → program p.actor line (p.outcomes ++ e.outcome ∷ []) ≡ n → turn c.state p ≡ Some (turn_to p rest a e n)
  turns n same =
      ap (turn_at c.state p) lines ∙ ap (turn_by c.state p line rest) next ∙ ap (λ n. Some (turn_to p rest a e n)) same

  step_is : (n : Next) → program p.actor line (p.outcomes ++ e.outcome ∷ []) ≡ n → (t : Turn) → t ≡ turn_to p rest a e n
      → t.action ≡ a → t.outcome ≡ e.outcome → t.state ≡ e.state → t.reply ≡ reply_in n → IsStepOf p.actor (still p zero line) (transition_of c.state v p t)
  step_is n same t is action outcome after reply =
      record {
        by_actor = refl;
        next = ap (program p.actor line) (append-nil p.outcomes) ∙ next ∙ ap Do (sym action);
        outcome = outcome ∙ ap (λ a. (act p.actor a c.state).outcome) (sym action);
        after = after ∙ ap (λ a. (act p.actor a c.state).state) (sym action);
        reply = reply ∙ ap reply_in (sym same) ∙ ap (λ o. reply_in (program p.actor line (p.outcomes ++ o ∷ []))) (sym outcome);
      }

  first_is : (l : Line) → slice_get p.left 0 ≡ Some l → line ≡ l
  first_is l there = let at = ap (λ xs. slice_get xs 0) lines in let same : line ≡ l = cc in same

  others : (i : ℕ) (l : Line) → slice_get p.left (suc i) ≡ Some l → slice_get rest i ≡ Some l
  others i l there = sym (ap (λ xs. slice_get xs (suc i)) lines) ∙ there

  first_place : p.done + 1 + 0 ≡ p.done + 1
  first_place = omega arith

  goes : (b : Action) → program p.actor line (p.outcomes ++ e.outcome ∷ []) ≡ Do b → IsAhead c (v ∷ us) v p
  goes b same =
      let t = turn_to p rest a e (Do b) in
      let is = is_turn c v us p t here (turns (Do b) same) refl in
      let rest_is = later (turned c v t) t.progress (get-written c.sections v p t.progress here) in
      let first : Plays p.actor (still p zero line) (from c (v ∷ us) v (p.done + 1 + 0)) =
      (let P : List Transition → Type 0 = λ ts. Plays p.actor (still p zero line) ts in
      subst P (sym (ap (from c (v ∷ us) v) first_place ∙ is.of_line)) ((
        step_is (Do b) same t refl refl refl refl refl,
        plays-same p.actor (still t.progress zero line) (λ os. still p zero line (e.outcome ∷ os)) (from (turned c v t) us v (p.done + 1))
            (λ os. ap (program p.actor line) (append_assoc p.outcomes (e.outcome ∷ []) os))
            (let Q : ℕ → Type 0 = λ k. Plays p.actor (still t.progress zero line) (from (turned c v t) us v k) in
            subst Q first_place (rest_is.left 0 line (ap (λ xs. slice_get xs 0) lines))),
      ))) in
      record {
        done = λ k few. is.of_others k (λ same. omega arith) ∙ rest_is.done k few;
        left = lefts t is rest_is first;
      } where
        lefts : (t : Turn) → IsTurn c v us p t → IsAhead (turned c v t) us v (record p { outcomes = p.outcomes ++ e.outcome ∷ [] }) → Plays p.actor (still p zero line) (from c (v ∷ us) v (p.done + 1 + 0))
            → (i : ℕ) (l : Line) → slice_get p.left i ≡ Some l → Plays p.actor (still p i l) (from c (v ∷ us) v (p.done + 1 + i))
        lefts t is rest_is first zero l there = let P : Line → Type 0 = λ l. Plays p.actor (still p zero l) (from c (v ∷ us) v (p.done + 1 + 0)) in subst P (first_is l there) first
        lefts t is rest_is first (suc i) l there =
            let P : List Transition → Type 0 = λ ts. Plays p.actor (still p (suc i) l) ts in
            subst P (sym (is.of_others (p.done + 1 + suc i) (λ same. omega arith))) (rest_is.left (suc i) l there)

  ends_line : (r : Reply) → program p.actor line (p.outcomes ++ e.outcome ∷ []) ≡ Say r → IsAhead c (v ∷ us) v p
  ends_line r same =
      let t = turn_to p rest a e (Say r) in
      let is = is_turn c v us p t here (turns (Say r) same) refl in
      let rest_is = later (turned c v t) t.progress (get-written c.sections v p t.progress here) in
      let P : List Transition → Type 0 = λ ts. Plays p.actor (still p zero line) ts in
      let first : Plays p.actor (still p zero line) (from c (v ∷ us) v (p.done + 1 + 0)) =
      subst P (sym (ap (from c (v ∷ us) v) first_place ∙ is.of_line ∙ ap (λ ts. transition_of c.state v p t ∷ ts) (rest_is.done (p.done + 1) (omega arith))))
      (step_is (Say r) same t refl refl refl refl refl, tt) in
      record {
        done = λ k few. is.of_others k (λ same. omega arith) ∙ rest_is.done k (omega arith);
        left = lefts t is rest_is first;
      } where
        lefts : (t : Turn) → IsTurn c v us p t → IsAhead (turned c v t) us v (record p { done = p.done + 1; left = rest; outcomes = [] }) → Plays p.actor (still p zero line) (from c (v ∷ us) v (p.done + 1 + 0))
            → (i : ℕ) (l : Line) → slice_get p.left i ≡ Some l → Plays p.actor (still p i l) (from c (v ∷ us) v (p.done + 1 + i))
        lefts t is rest_is first zero l there = let P : Line → Type 0 = λ l. Plays p.actor (still p zero l) (from c (v ∷ us) v (p.done + 1 + 0)) in subst P (first_is l there) first
        lefts t is rest_is first (suc i) l there =
            let P : List Transition → Type 0 = λ ts. Plays p.actor (still p (suc i) l) ts in
            let place : p.done + 1 + 1 + i ≡ p.done + 1 + suc i = omega arith in
            let q : Progress = record p { done = p.done + 1; left = rest; outcomes = [] } in
            subst P (ap (from (turned c v t) us v) place ∙ sym (is.of_others (p.done + 1 + suc i) (λ same. omega arith)))
            (plays-same p.actor (still q i l) (still p (suc i) l) (from (turned c v t) us v (p.done + 1 + 1 + i)) (λ os. still-fresh q i l os refl) (rest_is.left i l (others i l there)))

  by : (n : Next) → program p.actor line (p.outcomes ++ e.outcome ∷ []) ≡ n → IsAhead c (v ∷ us) v p
  by (Do b) same = goes b same
  by (Say r) same = ends_line r same

-- whatever the schedule is
pub ahead : (vs : List ℕ) (c : Course) (v : ℕ) (p : Progress) → slice_get c.sections v ≡ Some p → IsAhead c vs v p
ahead [] c v p here = record { done = λ k few. refl; left = λ i line there. tt }
ahead (u ∷ us) c v p here = by (u == v) refl (λ d q there. ahead us d v q there) where
  lines : (left : List Line) → p.left ≡ left → ((d : Course) (q : Progress) → slice_get d.sections v ≡ Some q → IsAhead d us v q) → IsAhead c (v ∷ us) v p
  lines [] none later = ahead-idle c v us p here (ap (turn_at c.state p) none) (later c p here)
  lines (line ∷ rest) some later = next (program p.actor line p.outcomes) refl where
    next : (n : Next) → program p.actor line p.outcomes ≡ n → IsAhead c (v ∷ us) v p
    next (Do a) does = ahead-turn c v us p line rest a here some does later
    next (Say r) says = ahead-idle c v us p here (ap (turn_at c.state p) some ∙ ap (turn_by c.state p line rest) says) (later c p here)

  by : (b : Bool) → (u == v) ≡ b → ((d : Course) (q : Progress) → slice_get d.sections v ≡ Some q → IsAhead d us v q) → IsAhead c (u ∷ us) v p
  by true same later =
      let P : ℕ → Type 0 = λ u. IsAhead c (u ∷ us) v p in
      let is : v ≡ u = grind (arith, nat_tests) in
      subst P is (lines p.left refl later)
  by false other later = let different : u ≢ v = grind (arith, nat_tests) in ahead-other c u v us p different here (λ d there. later d p there)
