-- How far a section is, as contracts see it and as the run has it.
use Rattle.std.specs.Prelude.{◌≡◌, ℕ, ◌+◌, ◌^◌, ◌<◌, ◌≤◌, Bool, true, false, List, [], ◌∷◌, ◌++◌, length, drop, sum_by, IsTrue, Option, Some, None, IfSome}
use Rattle.argo_model.specs.declared.action.Action.TheVariants.{Rest}
use Rattle.argo_model.specs.declared.action.Outcome.{Outcome}
use Rattle.argo_model.specs.declared.line.Line.{Line}
use Rattle.argo_model.specs.declared.reply.Reply.{Reply}
use Rattle.argo_model.specs.declared.scripts.Actor.{Actor}
use Rattle.argo_model.specs.declared.scripts.Actor.TheVariants.{Vcpu, Control}
use Rattle.argo_model.specs.Programs.Program.{Next, Do, Say, Rests, program}
use Rattle.argo_model.specs.declared.closing.Totals.{Totals}
use Rattle.argo_model.specs.declared.short.Short.{Short}
use Rattle.argo_model.specs.Rules.Access.{counted_at}
use Rattle.argo_model.specs.Rules.Fit.{needs_no_caller}
use Rattle.argo_model.specs.Rules.Shorts.{short_of}
use Rattle.argo_model.specs.Rules.State.{State}
use Rattle.argo_model.specs.Runs.Run.{Progress, Turn, turn, at_first_line}
use Rattle.argo_model.specs.Runs.Script.{Section}
use Rattle.line_phase.specs.declared.phase.Phase.{Phase}
use Rattle.line_phase.specs.Phase.{rest_of, IsAtPhase, phase_left}
use Rattle.vcpu_machine.specs.Line.{HasRoom}
use Rattle.vcpu_machine.specs.Steps.{most_steps}

-- a virtual CPU: its whole section, how many of the lines are done, how far the next of them is, and whether its next action was
-- asked for since the last outcome
pub record VcpuAt : Type 0 where
  pub part : Section
  pub done : ℕ
  pub phase : Phase
  pub ready : Bool

-- the lines that are not done
abbrev pub lines_left : VcpuAt → List Line
lines_left v = drop v.done v.part.lines

abbrev pub ahead_of : List Line → Phase → Rests
ahead_of [] phase os = Do Rest
ahead_of (line ∷ lines) phase os = rest_of line phase os

-- what the next line still does, by the outcomes to come
abbrev pub ahead : VcpuAt → Rests
ahead v os = ahead_of (lines_left v) v.phase os

-- how many actions the section has to come at most
abbrev pub left_of : VcpuAt → ℕ
left_of v = phase_left v.phase + sum_by most_steps (drop (v.done + 1) v.part.lines)

-- the reply, where it comes next
abbrev pub reply_in : Next → Option Reply
reply_in (Do a) = None
reply_in (Say reply) = Some reply

-- the phase stands for the outcomes that the next line has had
abbrev pub StandsFor : Actor → List Line → Phase → List Outcome → Type 0
StandsFor actor [] phase outcomes = outcomes ≡ []
StandsFor actor (line ∷ lines) phase outcomes = (os : List Outcome) → program actor line (outcomes ++ os) ≡ rest_of line phase os

-- the section is as far as a run has it
pub record StandsAt (v : VcpuAt) (p : Progress) : Type 0 where
  pub actor : p.actor ≡ v.part.actor
  pub done : p.done ≡ v.done
  pub left : p.left ≡ lines_left v
  pub outcomes : StandsFor v.part.actor (lines_left v) v.phase p.outcomes

-- an outcome joins those of the line; or the line has its reply, and the next one begins
abbrev pub progress_after : Progress → Outcome → Option Reply → Progress
progress_after p o None = record p { outcomes = p.outcomes ++ o ∷ [] }
progress_after p o (Some reply) = record p { done = p.done + 1; left = drop 1 p.left; outcomes = [] }

-- the section before its first action
pub record Begun (part : Section) (v : VcpuAt) : Type 0 where
  pub part_is : v.part ≡ part
  pub done_is : v.done ≡ 0
  pub stands : StandsAt v (at_first_line part)
  pub left : left_of v ≤ sum_by most_steps part.lines
  pub few : left_of v < 2 ^ 32

-- nothing that the section does is changed
pub record GoesOn (old new : VcpuAt) : Type 0 where
  pub part : new.part ≡ old.part
  pub done : new.done ≡ old.done
  pub left : left_of new ≡ left_of old
  pub rest : (os : List Outcome) → ahead new os ≡ ahead old os
  pub stands : (p : Progress) → StandsAt old p → StandsAt new p

-- the next action had this outcome, and the line's reply came with it or did not
pub record Fed (old : VcpuAt) (o : Outcome) (reply : Option Reply) (new : VcpuAt) : Type 0 where
  pub part : new.part ≡ old.part
  pub ready : new.ready ≡ false
  pub reply_is : reply ≡ reply_in (ahead old (o ∷ []))
  pub done : IfSome reply (λ r. new.done ≡ old.done + 1)
  pub nearer : left_of new < left_of old
  pub stands : (p : Progress) → StandsAt old p → StandsAt new (progress_after p o reply)

-- a step of the section over a world had this outcome, and the line's reply came with it or did not. Where the world tells its
-- state, that is the section's turn in every run that has come so far
pub record TakesTurn (before : Option State) (old : VcpuAt) (o : Outcome) (reply : Option Reply) (after : Option State) (new : VcpuAt) : Type 0 where
  pub part : new.part ≡ old.part
  pub done : IfSome reply (λ r. new.done ≡ old.done + 1)
  pub nearer : left_of new < left_of old
  pub turns : (s : State) → before ≡ Some s → (p : Progress) → StandsAt old p → (t : Turn) × (turn s p ≡ Some t) × (t.line ≡ old.done + 1) × (t.outcome ≡ o) × (t.reply ≡ reply) × (after ≡ Some t.state) × StandsAt new t.progress

-- a turn, with its outcome in short
abbrev pub TakesStep : Option State → VcpuAt → Short × Option Reply → Option State → VcpuAt → Type 0
TakesStep before old r after new = (o : Outcome) × (r.0 ≡ short_of o) × TakesTurn before old o r.1 after new

-- the totals count an action of section v with this outcome
abbrev pub CountsIn : List Totals → ℕ → Short → List Totals → Type 0
CountsIn before v short after = (o : Outcome) × (short ≡ short_of o) × (after ≡ counted_at before v o)

-- the next line is at its phase; past the last nothing is to come
abbrev pub IsAtLine : List Line → Phase → Type 0
IsAtLine [] phase = phase_left phase ≡ 0
IsAtLine (line ∷ lines) phase = IsAtPhase line phase

-- the next action needs no caller
abbrev pub NeedsNoCaller : Next → Type 0
NeedsNoCaller (Do a) = IsTrue (needs_no_caller a)
NeedsNoCaller (Say reply) = ⊥

-- a line of the control section has one action, which needs no caller
abbrev pub IsOwn : Actor → Line → Phase → Type 0
IsOwn (Vcpu d generation) line phase = Unit {0}
IsOwn Control line phase = NeedsNoCaller (rest_of line phase []) × (phase_left phase ≤ 1)

abbrev pub IsOwnAt : Actor → List Line → Phase → Type 0
IsOwnAt actor [] phase = Unit {0}
IsOwnAt actor (line ∷ lines) phase = IsOwn actor line phase

-- where the next action was asked for, there is a line left, and the outcome has its room
abbrev pub HasRoomIf : Bool → List Line → Phase → Type 0
HasRoomIf false lines phase = Unit {0}
HasRoomIf true [] phase = ⊥
HasRoomIf true (line ∷ lines) phase = HasRoom phase

-- what always holds
pub record IsVcpu (v : VcpuAt) : Type 0 where
  pub few : length v.part.lines ≤ 8192
  pub done : v.done ≤ length v.part.lines
  pub at_line : IsAtLine (lines_left v) v.phase
  pub own : IsOwnAt v.part.actor (lines_left v) v.phase
  pub room : HasRoomIf v.ready (lines_left v) v.phase

-- the first of these lines begins at this phase
abbrev pub Begins : Actor → List Line → Phase → Type 0
Begins actor [] phase = phase_left phase ≡ 0
Begins actor (line ∷ lines) phase =
    IsAtPhase line phase × ((os : List Outcome) → program actor line os ≡ rest_of line phase os)
    × (phase_left phase ≤ most_steps line) × IsOwn actor line phase
