-- The steps of a run as its laws see them: each with the states before and after it.
use Rattle.std.specs.Prelude.{ℕ, ◌&&◌, ◌==◌, List, [], ◌∷◌, ◌++◌, filter, slice_get, Option, option_map, option_to_list, option_and_then}
use Rattle.argo_model.specs.declared.scripts.Actor.{Actor}
use Rattle.argo_model.specs.Runs.Script.{Script}
use Rattle.argo_model.specs.Rules.State.{State}
use Rattle.argo_model.specs.Runs.Run.{Progress, Step, Turn, Course, start, step, step_of, turn}

-- a step of a run, who made it, and the states before and after it
pub record Transition : Type 0 where
  pub actor : Actor
  pub step : Step
  pub before : State
  pub after : State

-- the transition that section v makes by its turn
abbrev pub transition_of : State → ℕ → Progress → Turn → Transition
transition_of s v p t =
    record {
      actor = p.actor;
      step = step_of v t;
      before = s;
      after = t.state;
    }

-- the step that section v makes next, where it has one
abbrev pub transition_at : Course → ℕ → Option Transition
transition_at c v = option_and_then (λ p. option_map (transition_of c.state v p) (turn c.state p)) (slice_get c.sections v)

-- the steps of a schedule from a course on, in their order
abbrev pub transitions_from : Course → List ℕ → List Transition
transitions_from c [] = []
transitions_from c (v ∷ vs) = option_to_list (transition_at c v) ++ transitions_from (step c v) vs

-- the steps of a run
abbrev pub transitions_of : Script → List ℕ → List Transition
transitions_of s schedule = transitions_from (start s) schedule

-- the steps of a line, by its section and its place there
abbrev pub transitions_of_line : ℕ → ℕ → List Transition → List Transition
transitions_of_line v k transitions = filter (λ d. (d.step.vcpu == v) && (d.step.line == k)) transitions
