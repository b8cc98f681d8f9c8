-- What holds at every point of every run: the sentence that the program's users read, part by part.
use Rattle.std.specs.Prelude.{◌≡◌, ℕ, true, List, take, IfSome, Some}
use Rattle.argo_model.specs.Laws.Holding.{HoldsUntaken}
use Rattle.argo_model.specs.Laws.RingNames.{RingName, standing}
use Rattle.argo_model.specs.Laws.Transitions.{transition_at, transitions_of}
use Rattle.argo_model.specs.Rules.Matches.{RingAt}
use Rattle.argo_model.specs.Runs.Run.{run}
use Rattle.argo_model.specs.Runs.Script.{Script}
use Rattle.reply_causes.specs.Runs.{RepliesHaveCauses}
use Rattle.argo_laws.specs.Steps.{FlagsStay, NoticesStand}

-- after this schedule each clean ring holds, whole, once and in order, the messages that it accepted since its last start and that
-- its owner has not taken
abbrev pub CleanRingsHold : Script → List ℕ → Type 0
CleanRingsHold s schedule =
    (name : RingName) (at : RingAt) → standing (run s schedule).state name ≡ Some at → at.ring.clean ≡ true → HoldsUntaken (transitions_of s schedule) at

-- whichever section steps next, its step makes and ends notices legally
abbrev pub NoticesStandNext : Script → List ℕ → Type 0
NoticesStandNext s schedule = (v : ℕ) → IfSome (transition_at (run s schedule) v) NoticesStand

-- and it sets and clears flags as it may
abbrev pub FlagsStayNext : Script → List ℕ → Type 0
FlagsStayNext s schedule = (v : ℕ) → IfSome (transition_at (run s schedule) v) FlagsStay

-- at every point of the run of a script under a schedule: after each of its first steps, none and all included
pub record Headline (s : Script) (schedule : List ℕ) : Type 0 where
  pub clean_rings_hold : (k : ℕ) → CleanRingsHold s (take k schedule)
  pub replies_have_causes : (k : ℕ) → RepliesHaveCauses s (take k schedule)
  pub notices_stand : (k : ℕ) → NoticesStandNext s (take k schedule)
  pub flags_stay : (k : ℕ) → FlagsStayNext s (take k schedule)
