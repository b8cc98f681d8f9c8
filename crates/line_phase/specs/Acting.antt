-- Steps over a world: what section v may perform, and what it performed.
use Rattle.std.specs.Prelude.{◌≡◌, ℕ, List, Option, IsTrue}
use Rattle.argo_model.specs.declared.action.Action.{Action}
use Rattle.argo_model.specs.declared.action.Outcome.{Outcome}
use Rattle.argo_model.specs.declared.closing.Totals.{Totals}
use Rattle.argo_model.specs.declared.reply.Reply.{Reply}
use Rattle.argo_model.specs.declared.scripts.Actor.{Actor}
use Rattle.argo_model.specs.Programs.Asks.{Next, Do, Say}
use Rattle.argo_model.specs.Rules.Access.{is_fit_at, ActsIn, counted_at}
use Rattle.argo_model.specs.Rules.Fit.{is_fit}
use Rattle.argo_model.specs.Rules.State.{State}
use Rattle.line_phase.specs.declared.cursor.Cursor.{Cursor}
use Rattle.line_phase.specs.declared.phase.Followed.{Followed}
use Rattle.line_phase.specs.declared.phase.Question.{Question}
use Rattle.line_phase.specs.Followed.{AskFollows}
use Rattle.line_phase.specs.Question.{action_of}
use Rattle.line_phase.specs.Ranges.{PutsFirst}

-- what follows is an action that section v may perform where it is fit
abbrev pub MayGo : List Actor → ℕ → Next → Type 0
MayGo actors v (Do a) = IsTrue (is_fit a) → IsTrue (is_fit_at actors v a)
MayGo actors v (Say reply) = ⊥

-- section v performed the action that followed, with this outcome, and it is counted
pub record Performs (actors : List Actor) (v : ℕ) (n : Next) (before : Option State) (counted : List Totals) (o : Outcome) (after : Option State) (counts : List Totals) : Type 0 where
  pub action : Action
  pub does : n ≡ Do action
  pub acts : ActsIn actors v action before o after
  pub counts_are : counts ≡ counted_at counted v o

-- and so was the action of a line that asks
abbrev pub Asks : List Actor → ℕ → Question → Option State → List Totals → Followed → Option State → List Totals → Type 0
Asks actors v q before counted followed after counts =
    (o : Outcome) × Performs actors v (Do (action_of q)) before counted o after counts × AskFollows q o followed

-- the first piece of a range was put, from the last of the bytes
pub record Puts (actors : List Actor) (v : ℕ) (rest : Cursor) (bytes : List ℕ) (before : Option State) (counted : List Totals) (o : Outcome) (after : Option State) (counts : List Totals) : Type 0 where
  pub action : Action
  pub first : PutsFirst rest bytes action
  pub acts : ActsIn actors v action before o after
  pub counts_are : counts ≡ counted_at counted v o

-- section v may put the first piece
abbrev pub MayPut : List Actor → ℕ → Cursor → List ℕ → Type 0
MayPut actors v rest bytes = (put : Action) → PutsFirst rest bytes put → IsTrue (is_fit put) → IsTrue (is_fit_at actors v put)
