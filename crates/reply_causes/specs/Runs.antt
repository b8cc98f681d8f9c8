-- Why each reply of a run came, for every script and schedule.
use Rattle.std.specs.Prelude.{◌≡◌, ℕ, ◌+◌, Bool, true, List, [], ◌∷◌, map, slice_get, IsTrue, IsSome, IfSome, Some, None, option_and_then}
use Rattle.std.specs.List.{list_any}
use Rattle.argo_model.specs.declared.scripts.Actor.{Actor}
use Rattle.argo_model.specs.declared.scripts.Actor.TheVariants.{Vcpu, Control}
use Rattle.argo_model.specs.declared.line.Line.{Line}
use Rattle.argo_model.specs.declared.line.Line.TheVariants.{Op}
use Rattle.argo_model.specs.declared.reply.Reply.{Reply}
use Rattle.argo_model.specs.Programs.Program.{Command, SendV, command_of, program, caller_of}
use Rattle.argo_model.specs.Runs.Script.{Script, is_control_line}
use Rattle.argo_model.specs.Runs.Run.{run}
use Rattle.argo_model.specs.Laws.Transitions.{Transition, transitions_of, transitions_of_line}
use Rattle.argo_model.specs.Laws.SendCauses.{SendHasCause}
use Rattle.reply_causes.specs.Plays.{Plays, last_reply}
use Rattle.reply_causes.specs.Gone.{is_away}
use Rattle.reply_causes.specs.Tables.{Call, is_lost, states_of, unless_lost}
use Rattle.reply_causes.specs.Causes.{cause_of_line, send_of_call}

-- the steps that a line of a run has made, by its section and its place there from 0
abbrev pub steps_of_line : Script → List ℕ → ℕ → ℕ → List Transition
steps_of_line s schedule v k = transitions_of_line v (k + 1) (transitions_of s schedule)

-- what holds of the line at a place of a section, and of the section's actor, where they are there
abbrev pub IfLine : Script → ℕ → ℕ → (Actor → Line → Type 0) → Type 0
IfLine s v k P = IfSome (slice_get s.sections v) (λ x. IfSome (slice_get x.lines k) (λ line. P x.actor line))

-- the line that a transition is of is there, at a place of its section from 0
pub record IsOfLine (s : Script) (t : Transition) : Type 0 where
  pub place : ℕ
  pub number : t.step.line ≡ place + 1
  pub there : IsSome (option_and_then (λ x. slice_get x.lines place) (slice_get s.sections t.step.vcpu))

-- a virtual CPU may have any line, and the control section its own
abbrev pub is_line_of : Actor → Line → Bool
is_line_of (Vcpu d generation) line = true
is_line_of Control line = is_control_line line

-- what a send has done besides, by its reply; of other calls nothing is said here
abbrev pub CallHasCause : Command → Call → List Transition → Reply → Type 0
CallHasCause SendV c ts r = SendHasCause (send_of_call c) ts r
CallHasCause command c ts r = Unit {0}

abbrev pub LineHasCause : ℕ → Line → List Transition → Reply → Type 0
LineHasCause d (Op c a1 a2 a3 a4) ts r = CallHasCause (command_of c) (record { caller = d; a1 = a1; a2 = a2; a3 = a3; a4 = a4 }) ts r
LineHasCause d line ts r = Unit {0}

-- the reply is that of the line's table, of what the line's steps looked at, where none of them found the section's domain away; and a
-- send has done what its reply says
pub record HasCause (actor : Actor) (line : Line) (ts : List Transition) (r : Reply) : Type 0 where
  pub lost : is_lost ts ≡ list_any (is_away actor) (states_of ts)
  pub reply : r ≡ unless_lost ts (cause_of_line (caller_of actor) line (states_of ts))
  pub done : LineHasCause (caller_of actor) line ts r

-- a reply comes with the last step of a line alone
abbrev pub ReplyIsLast : List Transition → Type 0
ReplyIsLast [] = Unit {0}
ReplyIsLast (t ∷ []) = Unit {0}
ReplyIsLast (t ∷ u ∷ ts) = (t.step.reply ≡ None) × ReplyIsLast (u ∷ ts)

-- of a run: its transitions are its steps, each of a line of the script; those of each line are by the rules, the next actions of its
-- program; a reply ends its line; and each reply of a line that its section may have has its cause
pub record RepliesHaveCauses (s : Script) (schedule : List ℕ) : Type 0 where
  pub steps : map (λ t. t.step) (transitions_of s schedule) ≡ (run s schedule).steps
  pub lines : (i : ℕ) → IfSome (slice_get (transitions_of s schedule) i) (IsOfLine s)
  pub rules : (v k : ℕ) → IfLine s v k (λ actor line. Plays actor (program actor line) (steps_of_line s schedule v k))
  pub last : (v k : ℕ) → IfLine s v k (λ actor line. ReplyIsLast (steps_of_line s schedule v k))
  pub causes :
      (v k : ℕ) (r : Reply) → last_reply (steps_of_line s schedule v k) ≡ Some r
      → IfLine s v k (λ actor line. IsTrue (is_line_of actor line) → HasCause actor line (steps_of_line s schedule v k) r)

-- for every script and schedule, and so for every point of a run
abbrev pub AllRepliesHaveCauses : Type 0
AllRepliesHaveCauses = (s : Script) (schedule : List ℕ) → RepliesHaveCauses s schedule
