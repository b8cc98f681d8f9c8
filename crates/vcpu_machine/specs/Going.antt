-- What a step of a line over a world comes to.
use Rattle.std.specs.Prelude.{◌≡◌, ◌<◌, ℕ, List, [], Option, None, Some, IfNone}
use Rattle.argo_model.specs.declared.action.Outcome.{Outcome}
use Rattle.argo_model.specs.declared.closing.Totals.{Totals}
use Rattle.argo_model.specs.declared.line.Line.{Line}
use Rattle.argo_model.specs.declared.reply.Reply.{Reply}
use Rattle.argo_model.specs.declared.scripts.Actor.{Actor}
use Rattle.argo_model.specs.Programs.Recv.{say_found}
use Rattle.argo_model.specs.Rules.State.{State}
use Rattle.guest_lib.specs.Receiving.{Receiving, ahead}
use Rattle.line_phase.specs.declared.phase.Followed.{Followed}
use Rattle.line_phase.specs.declared.phase.Followed.TheVariants.{To, Over}
use Rattle.line_phase.specs.declared.phase.Phase.{Phase}
use Rattle.line_phase.specs.declared.phase.Phase.TheVariants.{Receiving as Library}
use Rattle.line_phase.specs.Acting.{Performs}
use Rattle.line_phase.specs.Phase.{rest_of, IsAtPhase, phase_left}
use Rattle.vcpu_machine.specs.Line.{Feeds, GoesOnAlike}

-- with an outcome a line goes from a phase to another, or has its reply
pub record Moves (line : Line) (old : Phase) (o : Outcome) (reply : Option Reply) (new : Phase) : Type 0 where
  pub feeds : Feeds line old o reply new
  pub at_phase : IfNone reply (IsAtPhase line new)
  pub nearer : IfNone reply (phase_left new < phase_left old)

-- the next action of a line was performed, and the line goes on with its outcome
abbrev pub Goes : List Actor → ℕ → Line → Phase → Option State → List Totals → Option Reply → Phase → Option State → List Totals → Type 0
Goes actors v line old before counted reply new after counts =
    (o : Outcome) × Performs actors v (rest_of line old []) before counted o after counts × Moves line old o reply new

-- a line that the library works through, whichever it is
abbrev pub ReceiveMoves : Receiving → Outcome → Option Reply → Receiving → Type 0
ReceiveMoves r outcome reply after = (line : Line) → Moves line (Library r) outcome reply (Library after)

-- and so was the library's action
abbrev pub Receives : List Actor → ℕ → Receiving → Option State → List Totals → Option Reply → Receiving → Option State → List Totals → Type 0
Receives actors v r before counted reply new after counts =
    (o : Outcome) × Performs actors v (ahead say_found r []) before counted o after counts × ReceiveMoves r o reply new

-- whichever line it is, the library goes on alike
abbrev pub ReceivesAlike : Receiving → Receiving → Type 0
ReceivesAlike old new = (line : Line) → GoesOnAlike line (Library old) (Library new)

-- the phase at which a line is that went somewhere, or its reply
abbrev pub Settles : Followed → Option Reply → Phase → Type 0
Settles (To phase) reply new = (reply ≡ None) × (new ≡ phase)
Settles (Over said) reply new = reply ≡ Some said
