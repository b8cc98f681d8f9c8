-- What an act of a domain comes to, where the domain may be gone.
use Rattle.std.specs.Prelude.{ℕ, Bool, Option, Some, None, List}
use Rattle.argo_base.specs.declared.ring_key.RingKey.{RingKey}
use Rattle.argo_model.specs.declared.action.Action.{Action}
use Rattle.argo_model.specs.declared.action.Outcome.TheVariants.{Gone}
use Rattle.argo_model.specs.Rules.Effects.{Change, answered, with_life}
use Rattle.argo_model.specs.Rules.Register.{register_own}
use Rattle.argo_model.specs.Rules.State.{Domain, Live, life_in}
use Rattle.argo_model.specs.Rules.Sweep.{sweep_own}
use Rattle.live_domain.specs.Own.{own_change}
use Rattle.live_domain.specs.declared.registration.Registration.{Registration}

-- an act on what it has itself, where it is on or off
abbrev pub own_if_live : Bool → Option Live → Action → Change Live
own_if_live on None a = answered Gone
own_if_live on (Some live) a = own_change on live a

abbrev pub own_in : ℕ → Domain → Action → Change Live
own_in generation x a = own_if_live x.on (life_in generation x) a

-- it sweeps its next ring
abbrev pub sweep_if_live : Domain → Option Live → ℕ → Change Live
sweep_if_live x None serial = answered Gone
sweep_if_live x (Some live) serial = sweep_own x live serial

abbrev pub sweep_in : ℕ → Domain → ℕ → Change Live
sweep_in generation x serial = sweep_if_live x (life_in generation x) serial

-- it registers a ring, among its own
abbrev pub register_if_live : Option Live → RingKey → ℕ → List ℕ → Bool → Change Live
register_if_live None key len pages fail_exist = answered Gone
register_if_live (Some live) key len pages fail_exist = register_own live key len pages fail_exist

abbrev pub register_in : Domain → Registration → Change Live
register_in x r = register_if_live x.life r.key r.len r.pages r.fail_exist

-- a domain after a change of what it has alive
abbrev pub with_left : Domain → Option Live → Domain
with_left x None = x
with_left x (Some live) = with_life live x
