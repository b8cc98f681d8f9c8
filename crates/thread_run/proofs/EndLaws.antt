-- Laws of the actions of a section: it destroys no domain but by its own lines.
use Rattle.std.proofs.Common.{◌≡◌, ℕ, suc, zero, List, [], ◌∷◌, ◌++◌, drop, IsTrue, refl, subst, ◌∙◌}
use Rattle.argo_model.specs.declared.scripts.Actor.{Actor}
use Rattle.argo_model.specs.declared.line.Line.{Line}
use Rattle.argo_model.specs.declared.action.Action.{Action}
use Rattle.argo_model.specs.declared.action.Outcome.{Outcome}
use Rattle.argo_model.specs.Programs.Asks.{Do}
use Rattle.argo_model.specs.Rules.Possible.{Facts}
use Rattle.argo_model.specs.Runs.Run.{Progress}
use Rattle.line_phase.specs.declared.phase.Phase.{Phase}
use Rattle.vcpu_machine.specs.Vcpu.{VcpuAt, StandsAt, StandsFor, ahead, ahead_of, lines_left}
use Rattle.shared_world.specs.Possible.{may_end}
use Rattle.thread_run.specs.Ends.{LinesMayEnd}
use Rattle.thread_run.proofs.AskLaws.{MayCome}
use Rattle.thread_run.proofs.ProgramLaws.{spare_program}

ends_later : (f : Facts) (n : ℕ) (lines : List Line) → LinesMayEnd f lines → LinesMayEnd f (drop n lines)
ends_later f zero lines ends = ends
ends_later f (suc n) [] ends = tt
ends_later f (suc n) (line ∷ lines) ends = ends_later f n lines ends.1

of_lines : (f : Facts) (actor : Actor) (lines : List Line) (phase : Phase) (os : List Outcome) (a : Action)
    → StandsFor actor lines phase os → LinesMayEnd f lines → ahead_of lines phase [] ≡ Do a → IsTrue (may_end f a)
of_lines f actor [] phase os a stands ends does = subst (MayCome f) does refl
of_lines f actor (line ∷ lines) phase os a stands ends does =
    subst (MayCome f) (stands [] ∙ does) (spare_program f actor line (os ++ []) ends.0)

-- the next action of a section that stands at its place in some run
pub next_may_end : (f : Facts) (v : VcpuAt) (p : Progress) (a : Action) → StandsAt v p → LinesMayEnd f v.part.lines → ahead v [] ≡ Do a → IsTrue (may_end f a)
next_may_end f v p a stands ends does =
    of_lines f v.part.actor (lines_left v) v.phase p.outcomes a stands.outcomes (ends_later f v.done v.part.lines ends) does
