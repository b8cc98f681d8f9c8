-- Every send has its cause.
use Rattle.std.specs.Prelude.{ℕ, List}
use Rattle.argo_model.specs.declared.scripts.Actor.TheVariants.{Vcpu}
use Rattle.argo_model.specs.declared.reply.Reply.{Reply}
use Rattle.argo_model.specs.Programs.Asks.{Rests}
use Rattle.argo_model.specs.Programs.Send.{sendv}
use Rattle.argo_model.specs.Laws.Transitions.{Transition}
use Rattle.argo_model.specs.Laws.SendCauses.{Send, SendHasCause}
use Rattle.reply_causes.specs.Plays.{PlaysTo}

abbrev pub send_program : Send → Rests
send_program x = sendv x.caller x.a1 x.a2 x.a3 x.a4

-- whatever the states are in which a virtual CPU makes the steps of a send
abbrev pub SendsHaveCauses : Type 0
SendsHaveCauses =
    (x : Send) (generation : ℕ) (ts : List Transition) (r : Reply)
    → PlaysTo (Vcpu x.caller generation) (send_program x) ts r → SendHasCause x ts r
