-- What a line still does: the whole of it from its first phase, and after each outcome the rest from the next.
use Rattle.std.specs.Prelude.{◌≡◌, Bool, List, ◌∷◌, IsTrue, Option, Some, None}
use Rattle.argo_model.specs.declared.action.Outcome.{Outcome}
use Rattle.argo_model.specs.declared.line.Line.{Line}
use Rattle.argo_model.specs.declared.reply.Reply.{Reply}
use Rattle.argo_model.specs.declared.scripts.Actor.{Actor}
use Rattle.argo_model.specs.declared.scripts.Actor.TheVariants.{Vcpu, Control}
use Rattle.argo_model.specs.Programs.Program.{Say, Rests, program}
use Rattle.argo_model.specs.Runs.Script.{is_vcpu_line, is_control_line}
use Rattle.line_phase.specs.declared.phase.Phase.{Phase}
use Rattle.line_phase.specs.declared.phase.Phase.TheVariants.{Reading, Writing, Asking, Looking, Receiving, Ended}
use Rattle.line_phase.specs.Phase.{rest_of, IsAtPhase, phase_left}
use Rattle.line_phase.specs.Ranges.{HasRoomFor}

-- the bytes of the next piece have their room
abbrev pub HasRoom : Phase → Type 0
HasRoom (Reading c got reader) = HasRoomFor c got
HasRoom (Writing c text) = Unit {0}
HasRoom (Asking q) = Unit {0}
HasRoom (Looking later) = Unit {0}
HasRoom (Receiving r) = IsTrue r.ready
HasRoom Ended = Unit {0}

-- nothing that the line does is changed
pub record GoesOnAlike (line : Line) (old new : Phase) : Type 0 where
  pub rest : (os : List Outcome) → rest_of line new os ≡ rest_of line old os
  pub at_phase : IsAtPhase line new
  pub left : phase_left new ≡ phase_left old

-- what follows an outcome: the rest from the new phase, or the reply
abbrev pub fed_to : Line → Phase → Option Reply → Rests
fed_to line phase None os = rest_of line phase os
fed_to line phase (Some reply) os = Say reply

-- the new phase, or the reply, is what follows the outcome
abbrev pub Feeds : Line → Phase → Outcome → Option Reply → Phase → Type 0
Feeds line old o reply new = (os : List Outcome) → rest_of line old (o ∷ os) ≡ fed_to line new reply os

-- the phase stands for the whole line
abbrev pub StandsForAll : Actor → Line → Phase → Type 0
StandsForAll actor line phase = (os : List Outcome) → program actor line os ≡ rest_of line phase os

-- a line that the actor's section may have
abbrev pub is_line_for : Actor → Line → Bool
is_line_for (Vcpu d generation) line = is_vcpu_line line
is_line_for Control line = is_control_line line
