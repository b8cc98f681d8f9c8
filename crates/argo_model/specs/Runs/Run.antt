-- Runs: what a script does under a schedule, a list of section numbers.
use Rattle.std.specs.Prelude.{◌≡◌, ℕ, ◌+◌, Bool, true, false, not, List, [], ◌∷◌, ◌++◌, length, map, fold, slice_get, slice_set, IsTrue, Option, Some, None, option_and_then}
use Rattle.std.specs.List.{list_all}
use Rattle.argo_model.specs.declared.scripts.Actor.{Actor}
use Rattle.argo_model.specs.declared.line.Line.{Line}
use Rattle.argo_model.specs.declared.action.Action.{Action}
use Rattle.argo_model.specs.declared.action.Outcome.{Outcome}
use Rattle.argo_model.specs.declared.reply.Reply.{Reply}
use Rattle.argo_model.specs.Runs.Script.{Script, Section}
use Rattle.argo_model.specs.Rules.State.{State, start_state}
use Rattle.argo_model.specs.Rules.Act.{Effect, act}
use Rattle.argo_model.specs.Programs.Program.{Next, Do, Say, program}

-- how far a section is: how many of its lines are done, the lines that are left, and the outcomes that the first of them has
-- had so far
pub record Progress : Type 0 where
  pub actor : Actor
  pub done : ℕ
  pub left : List Line
  pub outcomes : List Outcome

-- a step: the section, the place of its line from 1, the action, its outcome, and the line's reply where it came with it
pub record Step : Type 0 where
  pub vcpu : ℕ
  pub line : ℕ
  pub action : Action
  pub outcome : Outcome
  pub reply : Option Reply

-- how far a run is: the state, the sections, and the steps in their order
pub record Course : Type 0 where
  pub state : State
  pub sections : List Progress
  pub steps : List Step

-- every section stands at its first line, with no outcomes
abbrev pub at_first_line : Section → Progress
at_first_line s = record { actor = s.actor; done = 0; left = s.lines; outcomes = [] }

abbrev pub start : Script → Course
start s = record { state = start_state s.domains; sections = map at_first_line s.sections; steps = [] }

-- what one step of a section comes to: the place of its line from 1, and the rest
pub record Turn : Type 0 where
  pub line : ℕ
  pub action : Action
  pub outcome : Outcome
  pub reply : Option Reply
  pub state : State
  pub progress : Progress

-- the outcome joins those of the line. Where the line then has its reply, the section goes to its next line
abbrev pub turn_to : Progress → List Line → Action → Effect → Next → Turn
turn_to p rest a e (Do next) =
    record {
      line = p.done + 1;
      action = a;
      outcome = e.outcome;
      reply = None;
      state = e.state;
      progress = record p { outcomes = p.outcomes ++ e.outcome ∷ [] };
    }
turn_to p rest a e (Say reply) =
    record {
      line = p.done + 1;
      action = a;
      outcome = e.outcome;
      reply = Some reply;
      state = e.state;
      progress = record p { done = p.done + 1; left = rest; outcomes = [] };
    }

-- the line's action is performed. A line that has its reply is left already
abbrev pub turn_by : State → Progress → Line → List Line → Next → Option Turn
turn_by s p line rest (Do a) =
    let e = act p.actor a s in
    Some (turn_to p rest a e (program p.actor line (p.outcomes ++ e.outcome ∷ [])))
turn_by s p line rest (Say reply) = None

-- one step of a section, where it has a line left
abbrev pub turn_at : State → Progress → List Line → Option Turn
turn_at s p [] = None
turn_at s p (line ∷ rest) = turn_by s p line rest (program p.actor line p.outcomes)

abbrev pub turn : State → Progress → Option Turn
turn s p = turn_at s p p.left

-- the step that section v makes by its turn
abbrev pub step_of : ℕ → Turn → Step
step_of v t = record { vcpu = v; line = t.line; action = t.action; outcome = t.outcome; reply = t.reply }

-- the course after a turn of section v; a section that has no turn changes nothing
abbrev pub after_turn : Course → ℕ → Option Turn → Course
after_turn c v None = c
after_turn c v (Some t) =
    record {
      state = t.state;
      sections = slice_set c.sections v t.progress;
      steps = c.steps ++ step_of v t ∷ [];
    }

-- the turn that section v takes next, where it has a line left
abbrev pub next_turn : Course → ℕ → Option Turn
next_turn c v = option_and_then (turn c.state) (slice_get c.sections v)

-- one step of section v
abbrev pub step : Course → ℕ → Course
step c v = after_turn c v (next_turn c v)

-- a whole schedule, one step after another
abbrev pub run : Script → List ℕ → Course
run s schedule = fold step (start s) schedule

-- the section has a line left
abbrev pub has_lines : List Line → Bool
has_lines [] = false
has_lines (line ∷ lines) = true

abbrev pub is_finished : Progress → Bool
is_finished p = not (has_lines p.left)

-- section v has a line left
abbrev pub is_unfinished : Option Progress → Bool
is_unfinished None = false
is_unfinished (Some p) = has_lines p.left

abbrev pub is_open : Course → ℕ → Bool
is_open c v = is_unfinished (slice_get c.sections v)

-- each number of the schedule made a step, and in the end every section is finished
pub record IsComplete (s : Script) (schedule : List ℕ) : Type 0 where
  pub each_steps : length (run s schedule).steps ≡ length schedule
  pub all_finished : IsTrue (list_all is_finished (run s schedule).sections)
