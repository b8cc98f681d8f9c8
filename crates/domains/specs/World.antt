-- Whom an act of a caller signals.
use Rattle.std.specs.Prelude.{ℕ, ◌&&◌, not, List, [], ◌∷◌, Option, Some, None}
use Rattle.argo_base.specs.declared.errno.Errno.TheVariants.{Srch, NoDev, ConnRefused}
use Rattle.argo_model.specs.declared.action.Outcome.{Outcome}
use Rattle.argo_model.specs.declared.action.Outcome.TheVariants.{Done, Bytes, Fault, Refused, Accepted, Swept, NoMore, Answer, Flag, Gone}
use Rattle.argo_model.specs.Rules.Effects.{Change, refuse_if}
use Rattle.argo_model.specs.Rules.Register.{is_single, register_own}
use Rattle.argo_model.specs.Rules.State.{State, Domain, Live, domain_of, is_alive, is_on, life_in}
use Rattle.domains.specs.Domain.{sweep_in}
use Rattle.live_domain.specs.declared.registration.Registration.{Registration}

-- whom an offer with this outcome signals
abbrev pub accepted_signals : ℕ → Outcome → List ℕ
accepted_signals to Done = []
accepted_signals to (Bytes bs) = []
accepted_signals to Fault = []
accepted_signals to (Refused e) = []
accepted_signals to (Accepted n) = to ∷ []
accepted_signals to (Swept serial) = []
accepted_signals to NoMore = []
accepted_signals to (Answer a) = []
accepted_signals to (Flag set) = []
accepted_signals to Gone = []

-- whom a sweep signals
abbrev pub swept_of : ℕ → ℕ → Option Domain → List ℕ
swept_of generation serial None = []
swept_of generation serial (Some x) = (sweep_in generation x serial).signals

abbrev pub swept : State → ℕ → ℕ → ℕ → List ℕ
swept s d generation serial = swept_of generation serial (domain_of s d)

-- whom a registration signals
abbrev pub register_change : State → Domain → Live → Registration → Change Live
register_change s x live r =
    refuse_if (is_single r.key.partner && not (is_alive s r.key.partner)) Srch (
    refuse_if (not x.on) NoDev (
    refuse_if (is_single r.key.partner && not (is_on s r.key.partner)) ConnRefused (
    register_own live r.key r.len r.pages r.fail_exist)))

abbrev pub registered_if_live : State → Domain → Option Live → Registration → List ℕ
registered_if_live s x None r = []
registered_if_live s x (Some live) r = (register_change s x live r).signals

abbrev pub registered_if_there : State → ℕ → Option Domain → Registration → List ℕ
registered_if_there s generation None r = []
registered_if_there s generation (Some x) r = registered_if_live s x (life_in generation x) r

abbrev pub registered : State → ℕ → ℕ → Registration → List ℕ
registered s d generation r = registered_if_there s generation (domain_of s d) r
