-- The kinds of actions.
use Rattle.std.specs.Prelude.{Bool, true, false}
use Rattle.argo_model.specs.declared.action.Action.{Action}
use Rattle.argo_model.specs.declared.action.Action.TheVariants.{Rest, Fetch, Put, Register, Unregister, Deliver, Sweep, Query, Look, Destroy, Reset, Create}

-- it is neither a fetch, a put nor a look at the flag
abbrev pub is_act_of_argo : Action → Bool
is_act_of_argo Rest = true
is_act_of_argo (Fetch page off n) = false
is_act_of_argo (Put page off bytes) = false
is_act_of_argo (Register port partner len pages fail_exist) = true
is_act_of_argo (Unregister port partner) = true
is_act_of_argo (Deliver port to to_port kind load) = true
is_act_of_argo (Sweep serial) = true
is_act_of_argo (Query to to_port need) = true
is_act_of_argo Look = false
is_act_of_argo (Destroy dom) = true
is_act_of_argo (Reset dom) = true
is_act_of_argo (Create dom) = true
