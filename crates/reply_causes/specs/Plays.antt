-- The steps of a line: each performs the next action of the line's program, by the rules, in the state that it finds.
use Rattle.std.specs.Prelude.{◌≡◌, List, [], ◌∷◌, Option, Some, None, option_and_then}
use Rattle.std.specs.List.{last_or}
use Rattle.argo_model.specs.declared.scripts.Actor.{Actor}
use Rattle.argo_model.specs.declared.reply.Reply.{Reply}
use Rattle.argo_model.specs.Rules.Act.{act}
use Rattle.argo_model.specs.Programs.Asks.{Next, Do, Say, Rests}
use Rattle.argo_model.specs.Laws.Transitions.{Transition}

-- the reply, where it comes next
abbrev pub reply_in : Next → Option Reply
reply_in (Do a) = None
reply_in (Say r) = Some r

-- the transition performs the next action of the program. The outcome and the state after it are those of the rule in the state
-- before it, and it has the reply that the program then says, if it says one
pub record IsStepOf (actor : Actor) (program : Rests) (t : Transition) : Type 0 where
  pub by_actor : t.actor ≡ actor
  pub next : program [] ≡ Do t.step.action
  pub outcome : t.step.outcome ≡ (act actor t.step.action t.before).outcome
  pub after : t.after ≡ (act actor t.step.action t.before).state
  pub reply : t.step.reply ≡ reply_in (program (t.step.outcome ∷ []))

-- the transitions are the first steps of a line with this program, in whatever states they find
abbrev pub Plays : Actor → Rests → List Transition → Type 0
Plays actor program [] = Unit {0}
Plays actor program (t ∷ ts) = IsStepOf actor program t × Plays actor (λ os. program (t.step.outcome ∷ os)) ts

-- the reply that came with the last of them
abbrev pub last_reply : List Transition → Option Reply
last_reply ts = option_and_then (λ t. t.step.reply) (last_or None ts)

-- they are the whole line, which comes to this reply
pub record PlaysTo (actor : Actor) (program : Rests) (transitions : List Transition) (r : Reply) : Type 0 where
  pub plays : Plays actor program transitions
  pub replies : last_reply transitions ≡ Some r
