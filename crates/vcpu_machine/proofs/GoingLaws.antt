-- Laws of steps over a world.
use Rattle.std.proofs.Common.{◌≡◌, false, ℕ, ◌+◌, ◌<◌, List, [], ◌∷◌, length, drop, Option, Some, None, slice_get, refl, sym, ◌∙◌, subst}
use Rattle.argo_model.specs.declared.action.Outcome.{Outcome}
use Rattle.argo_model.specs.declared.closing.Totals.{Totals}
use Rattle.argo_model.specs.declared.line.Line.{Line}
use Rattle.argo_model.specs.declared.reply.Reply.{Reply}
use Rattle.argo_model.specs.declared.scripts.Actor.{Actor}
use Rattle.argo_model.specs.Rules.Access.{counted_at}
use Rattle.argo_model.specs.Rules.State.{State}
use Rattle.line_phase.specs.declared.phase.Followed.{Followed}
use Rattle.line_phase.specs.declared.phase.Followed.TheVariants.{To, Over}
use Rattle.line_phase.specs.declared.phase.Phase.{Phase}
use Rattle.line_phase.specs.Followed.{Follows}
use Rattle.line_phase.specs.Acting.{Performs}
use Rattle.vcpu_machine.specs.Going.{Goes, Moves, Settles}
use Rattle.line_phase.specs.Phase.{rest_of, IsAtPhase, phase_left}
use Rattle.vcpu_machine.specs.Vcpu.{VcpuAt, lines_left, GoesOn, Fed, TakesTurn, IsVcpu, Begins}
use Rattle.vcpu_machine.proofs.TurnLaws.{takes_turn}
use Rattle.vcpu_machine.proofs.VcpuLaws.{rest_here, goes_on_fed, over_fed}

-- a line that stays is moved on, and so is one that goes somewhere
pub moves_stay : (line : Line) (old stays : Phase) (o : Outcome) → Follows line old o None stays → Moves line old o None stays
moves_stay line old stays o h = record { feeds = h.rest; at_phase = h.ready; nearer = h.nearer }

pub moves_by : (line : Line) (old stays new : Phase) (o : Outcome) (followed : Followed) (reply : Option Reply) → Follows line old o (Some followed) stays
    → Settles followed reply new → Moves line old o reply new
moves_by line old stays new o (To phase) reply h settled =
    subst (λ r. Moves line old o r new) (sym settled.0)
    (subst (λ p. Moves line old o None p) (sym settled.1) (record { feeds = h.rest; at_phase = h.ready; nearer = h.nearer }))
moves_by line old stays new o (Over said) reply h settled =
    subst (λ r. Moves line old o r new) (sym settled) (record { feeds = h.rest; at_phase = tt; nearer = tt })

goes_on_same : (v : VcpuAt) → GoesOn v v
goes_on_same v = record { part = refl; done = refl; left = refl; rest = λ os. refl; stands = λ p st. st }

module _ (v : VcpuAt) (line : Line) (rest : List Line) (is : IsVcpu v) (lines : lines_left v ≡ line ∷ rest) (actors : List Actor) (k : ℕ) (before after : Option State)
    (counted counts : List Totals) (more : v.done < length v.part.lines) (section : slice_get actors k ≡ Some v.part.actor) where
  turned_by : (o : Outcome) (reply : Option Reply) (new : VcpuAt) → Performs actors k (rest_of line v.phase []) before counted o after counts → Fed v o reply new → TakesTurn before v o reply after new
  turned_by o reply new performs fed =
      takes_turn v v new performs.action o reply actors k before after more section (rest_here v line rest is lines [] ∙ performs.does) (goes_on_same v) performs.acts fed

  -- a step without a reply leaves the line at its phase, nearer to its end, and is a turn
  pub goes_moves : (reply : Option Reply) (phase : Phase) → reply ≡ None → Goes actors k line v.phase before counted reply phase after counts
      → IsAtPhase line phase × (phase_left phase < phase_left v.phase)
  goes_moves reply phase none goes =
      let moves = (subst (λ r. Goes actors k line v.phase before counted r phase after counts) none goes).2 in (moves.at_phase, moves.nearer)

  pub goes_turn : (reply : Option Reply) (phase : Phase) → reply ≡ None → Goes actors k line v.phase before counted reply phase after counts
      → (o : Outcome) × TakesTurn before v o None after (record { part = v.part; done = v.done; phase = phase; ready = false }) × (counts ≡ counted_at counted k o)
  goes_turn reply phase none came =
      let goes = subst (λ r. Goes actors k line v.phase before counted r phase after counts) none came in
      let o = goes.0 in
      let moves = goes.2 in (
        o,
        turned_by o None (record { part = v.part; done = v.done; phase = phase; ready = false }) goes.1
            (goes_on_fed v line rest is lines o phase moves.feeds moves.at_phase moves.nearer),
        goes.1.counts_are,
      )

  -- and so is one with which the line has its reply
  pub over_turn : (reply : Option Reply) (said : Reply) (moved phase : Phase) → reply ≡ Some said → Goes actors k line v.phase before counted reply moved after counts
      → rest ≡ drop (v.done + 1) v.part.lines → Begins v.part.actor (drop (v.done + 1) v.part.lines) phase
      → (o : Outcome) × TakesTurn before v o (Some said) after (record { part = v.part; done = v.done + 1; phase = phase; ready = false }) × (counts ≡ counted_at counted k o)
  over_turn reply said moved phase some came later begins =
      let goes = subst (λ r. Goes actors k line v.phase before counted r moved after counts) some came in
      let o = goes.0 in
      let moves = goes.2 in (
        o,
        turned_by o (Some said) (record { part = v.part; done = v.done + 1; phase = phase; ready = false }) goes.1
            (over_fed v line rest is lines o said phase moves.feeds later begins),
        goes.1.counts_are,
      )
