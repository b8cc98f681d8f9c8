-- The words in which the tables of causes are written, beside those of the table of sends.
use Rattle.std.specs.Prelude.{ℕ, Bool, if◌then◌else◌, List, [], map, None, unwrap_or, pos}
use Rattle.std.specs.List.{list_any, last_or}
use Rattle.argo_model.specs.declared.reply.Reply.{Reply}
use Rattle.argo_model.specs.declared.reply.Reply.TheVariants.{Number, Gone}
use Rattle.argo_model.specs.Rules.State.{State}
use Rattle.argo_model.specs.Rules.Outcomes.{is_gone}
use Rattle.argo_model.specs.Laws.Transitions.{Transition}

-- a hypercall with its arguments
pub record Call : Type 0 where
  pub caller : ℕ
  pub a1 : ℕ
  pub a2 : ℕ
  pub a3 : ℕ
  pub a4 : ℕ

-- the states that the steps of a line found
abbrev pub states_of : List Transition → List State
states_of ts = map (λ t. t.before) ts

-- the last of them
abbrev pub last_state : List State → State
last_state states = unwrap_or (last_or None states) []

-- an outcome of the line was `Gone`
abbrev pub is_lost : List Transition → Bool
is_lost ts = list_any (λ t. is_gone t.step.outcome) ts

-- the reply `gone` where an outcome was that, and else this
abbrev pub unless_lost : List Transition → Reply → Reply
unless_lost ts r = if is_lost ts then Gone else r

-- the reply where the test holds, and else what follows
abbrev pub case : Bool → Reply → Reply → Reply
case test r rest = if test then r else rest

-- the reply of what is done
abbrev pub zero_reply : Reply
zero_reply = Number (pos 0)
