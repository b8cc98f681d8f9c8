-- Who acts, and what an act asks for.
use Rattle.std.specs.Prelude.{ℕ, Bool, true, false, Option, Some, None}
use Rattle.argo_model.specs.declared.action.Action.{Action}
use Rattle.argo_model.specs.declared.action.Action.TheVariants.{Rest, Fetch, Put, Register, Unregister, Deliver, Sweep, Query, Look, Destroy, Reset, Create}
use Rattle.argo_model.specs.Rules.State.{State, Domain, Live, domain_of, life_in}
use Rattle.live_domain.specs.declared.registration.Registration.{Registration}

-- whether a caller is on, where it lives in the generation that its section names
abbrev pub on_if_live : Domain → Option Live → Option Bool
on_if_live x None = None
on_if_live x (Some live) = Some x.on

abbrev pub on_if_there : ℕ → Option Domain → Option Bool
on_if_there generation None = None
on_if_there generation (Some x) = on_if_live x (life_in generation x)

abbrev pub caller_on : State → ℕ → ℕ → Option Bool
caller_on s d generation = on_if_there generation (domain_of s d)

-- the action that asks for a registration
abbrev pub registers : Registration → Action
registers r = Register r.key.port r.key.partner r.len r.pages r.fail_exist

-- an act of a domain on what it has itself, in which no ring comes or goes, and nobody's notice
abbrev pub keeps_rings : Action → Bool
keeps_rings Rest = true
keeps_rings (Fetch page off n) = true
keeps_rings (Put page off bytes) = true
keeps_rings (Register port partner len pages fail_exist) = false
keeps_rings (Unregister port partner) = false
keeps_rings (Deliver port to to_port kind load) = false
keeps_rings (Sweep after) = false
keeps_rings (Query to to_port need) = false
keeps_rings Look = true
keeps_rings (Destroy dom) = false
keeps_rings (Reset dom) = false
keeps_rings (Create dom) = false
