-- What each action of a section answers, and the state that it leaves.
use Rattle.std.specs.Prelude.{ℕ, ◌+◌, ◌*◌, false, List, take, drop, Option, Some, None, if◌then◌else◌}
use Rattle.argo_base.specs.Match.{key_of}
use Rattle.argo_model.specs.declared.scripts.Actor.{Actor}
use Rattle.argo_model.specs.declared.scripts.Actor.TheVariants.{Vcpu, Control}
use Rattle.argo_model.specs.declared.action.Action.{Action}
use Rattle.argo_model.specs.declared.action.Action.TheVariants.{Rest, Fetch, Put, Register, Unregister, Deliver, Sweep, Query, Look, Destroy, Reset, Create}
use Rattle.argo_model.specs.declared.action.Outcome.{Outcome}
use Rattle.argo_model.specs.declared.action.Outcome.TheVariants.{Done, Bytes, Fault, Flag, Gone}
use Rattle.argo_model.specs.Rules.State.{State, Domain, Live, domain_of, life_in, has_page}
use Rattle.argo_model.specs.Rules.Puts.{put_into}
use Rattle.argo_model.specs.Rules.Register.{register, unregister}
use Rattle.argo_model.specs.Rules.Deliver.{deliver}
use Rattle.argo_model.specs.Rules.Sweep.{sweep}
use Rattle.argo_model.specs.Rules.Query.{query}
use Rattle.argo_model.specs.Rules.Destroy.{destroy, reset, create}
use Rattle.argo_model.specs.Rules.Effects.{Change, answered, leaving, change_in}
pub use Rattle.argo_model.specs.Rules.Effects.{Effect, stays}

-- the bytes of a page, or a fault where the caller has no such page
abbrev pub fetch : Live → ℕ → ℕ → ℕ → Outcome
fetch live page off n = if has_page live page then Bytes (take n (drop (4096 * page + off) live.bytes)) else Fault

-- these bytes are put into a page, or a fault is met where the caller has no such page
abbrev pub put : Live → ℕ → ℕ → List ℕ → Change Live
put live page off bytes = if has_page live page then leaving Done (put_into live page off bytes) else answered Fault

-- the caller's flag is told, and is clear afterwards
abbrev pub look : Live → Change Live
look live = leaving (Flag live.flag) (record live { flag = false })

-- an action of a domain that lives
abbrev pub act_of : State → ℕ → Domain → Live → Action → Effect
act_of s d x live Rest = stays Done s
act_of s d x live (Fetch page off n) = stays (fetch live page off n) s
act_of s d x live (Put page off bytes) = change_in s d (put live page off bytes)
act_of s d x live (Register port partner len pages fail_exist) = register s d x live (key_of port partner) len pages fail_exist
act_of s d x live (Unregister port partner) = unregister s d x live (key_of port partner)
act_of s d x live (Deliver port to to_port kind load) = deliver s x to to_port (record { sender = d; port = port; kind = kind; load = load })
act_of s d x live (Sweep serial) = sweep s d x live serial
act_of s d x live (Query to to_port need) = query s d x to to_port need
act_of s d x live Look = change_in s d (look live)
act_of s d x live (Destroy dom) = destroy s dom
act_of s d x live (Reset dom) = reset s dom
act_of s d x live (Create dom) = create s dom

-- an action of the control section, which has no domain: those that speak of one are not fit for it, and change nothing
abbrev pub act_of_control : State → Action → Effect
act_of_control s (Destroy dom) = destroy s dom
act_of_control s (Reset dom) = reset s dom
act_of_control s (Create dom) = create s dom
act_of_control s a = stays Done s

-- the domain lives in the generation that the section names, or the outcome is `Gone`
abbrev pub act_if_live : State → ℕ → Domain → Option Live → Action → Effect
act_if_live s d x None a = stays Gone s
act_if_live s d x (Some live) a = act_of s d x live a

abbrev pub act_if_there : State → ℕ → ℕ → Option Domain → Action → Effect
act_if_there s d generation None a = stays Gone s
act_if_there s d generation (Some x) a = act_if_live s d x (life_in generation x) a

abbrev pub act : Actor → Action → State → Effect
act (Vcpu d generation) a s = act_if_there s d generation (domain_of s d) a
act Control a s = act_of_control s a
