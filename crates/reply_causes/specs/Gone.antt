-- Where the reply `gone` comes from.
use Rattle.std.specs.Prelude.{◌≡◌, Bool, false, List, is_none, option_and_then}
use Rattle.std.specs.List.{list_any}
use Rattle.argo_model.specs.declared.scripts.Actor.{Actor}
use Rattle.argo_model.specs.declared.scripts.Actor.TheVariants.{Vcpu, Control}
use Rattle.argo_model.specs.Rules.State.{State, domain_of, life_in}
use Rattle.argo_model.specs.Programs.Asks.{Rests}
use Rattle.argo_model.specs.Laws.Transitions.{Transition}
use Rattle.reply_causes.specs.Plays.{Plays}
use Rattle.reply_causes.specs.Tables.{is_lost, states_of}

-- the domain of a virtual CPU is not alive, or is of another generation than its section; the control section has no domain
abbrev pub is_away : Actor → State → Bool
is_away (Vcpu d generation) s = is_none (option_and_then (life_in generation) (domain_of s d))
is_away Control s = false

-- an outcome of a line is `Gone` exactly where its domain was away in a state that one of its steps found
abbrev pub LostExactlyWhereAway : Type 0
LostExactlyWhereAway =
    (actor : Actor) (program : Rests) (ts : List Transition)
    → Plays actor program ts → is_lost ts ≡ list_any (is_away actor) (states_of ts)
