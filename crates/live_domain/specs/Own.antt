-- What an act of a domain on its own memory, flag and rings comes to, where it signals nobody.
use Rattle.std.specs.Prelude.{Bool, true, false, not}
use Rattle.argo_base.specs.Match.{key_of}
use Rattle.argo_base.specs.declared.errno.Errno.TheVariants.{NoDev, NoEnt}
use Rattle.argo_base.specs.declared.ring_key.RingKey.{RingKey}
use Rattle.argo_model.specs.declared.action.Action.{Action}
use Rattle.argo_model.specs.declared.action.Action.TheVariants.{Rest, Fetch, Put, Register, Unregister, Deliver, Sweep, Query, Look, Destroy, Reset, Create}
use Rattle.argo_model.specs.declared.action.Outcome.TheVariants.{Done}
use Rattle.argo_model.specs.Rules.Act.{fetch, put, look}
use Rattle.argo_model.specs.Rules.Effects.{Change, answered, refuse_if, leaving}
use Rattle.argo_model.specs.Rules.Register.{has_ring, without_ring}
use Rattle.argo_model.specs.Rules.State.{Live}

-- an action that changes nothing but what its caller has, and no flag of another
abbrev pub is_own : Action → Bool
is_own Rest = true
is_own (Fetch page off n) = true
is_own (Put page off bytes) = true
is_own (Register port partner len pages fail_exist) = false
is_own (Unregister port partner) = true
is_own (Deliver port to to_port kind load) = false
is_own (Sweep after) = false
is_own (Query to to_port need) = false
is_own Look = true
is_own (Destroy dom) = false
is_own (Reset dom) = false
is_own (Create dom) = false

-- a ring is taken away, where it stands
abbrev pub take_away : Live → RingKey → Change Live
take_away live key = refuse_if (not (has_ring live key)) NoEnt (leaving Done (without_ring live key))

-- of a domain that lives, and is on or off
abbrev pub own_change : Bool → Live → Action → Change Live
own_change on live Rest = answered Done
own_change on live (Fetch page off n) = answered (fetch live page off n)
own_change on live (Put page off bytes) = put live page off bytes
own_change on live (Register port partner len pages fail_exist) = answered Done
own_change on live (Unregister port partner) = refuse_if (not on) NoDev (take_away live (key_of port partner))
own_change on live (Deliver port to to_port kind load) = answered Done
own_change on live (Sweep after) = answered Done
own_change on live (Query to to_port need) = answered Done
own_change on live Look = look live
own_change on live (Destroy dom) = answered Done
own_change on live (Reset dom) = answered Done
own_change on live (Create dom) = answered Done
