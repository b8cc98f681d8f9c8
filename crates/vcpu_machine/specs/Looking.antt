-- What a look comes to.
use Rattle.std.specs.Prelude.{ℕ, Bool, false, Option}
use Rattle.argo_model.specs.declared.action.Outcome.{Outcome}
use Rattle.argo_model.specs.declared.action.Outcome.TheVariants.{Flag}
use Rattle.argo_model.specs.declared.line.Line.{Line}
use Rattle.argo_model.specs.declared.reply.Reply.{Reply}
use Rattle.line_phase.specs.declared.phase.Phase.TheVariants.{Looking}
use Rattle.vcpu_machine.specs.Going.{Moves}

-- the flag was found set
abbrev pub is_signal : Outcome → Bool
is_signal (Flag b) = b
is_signal o = false

-- a line, whichever it is, that looks with so many to come has its reply, or looks again
abbrev pub LookMoves : ℕ → Outcome → Option Reply → ℕ → Type 0
LookMoves later outcome reply less = (line : Line) → Moves line (Looking later) outcome reply (Looking less)
