-- What an access to a world shows of an action of a section.
use Rattle.std.specs.Prelude.{◌≡◌, ℕ, ◌^◌, Bool, false, nat_lt, List, slice_get, slice_set, sum_by, Option, Some, None}
use Rattle.argo_model.specs.declared.action.Action.{Action}
use Rattle.argo_model.specs.declared.action.Action.TheVariants.{Fetch, Deliver}
use Rattle.argo_model.specs.declared.action.Address.{Address}
use Rattle.argo_model.specs.declared.action.Load.{Load}
use Rattle.argo_model.specs.declared.action.Outcome.{Outcome}
use Rattle.argo_model.specs.declared.action.Outcome.TheVariants.{Fault as NoPage, Gone as NoCaller}
use Rattle.argo_model.specs.declared.action.Unseen.{Unseen}
use Rattle.argo_model.specs.declared.action.Unseen.TheVariants.{Fault, Gone}
use Rattle.argo_base.specs.declared.piece.Piece.{Piece}
use Rattle.argo_model.specs.declared.scripts.Actor.{Actor}
use Rattle.argo_model.specs.declared.closing.Totals.{Totals}
use Rattle.argo_model.specs.Rules.Act.{act}
use Rattle.argo_model.specs.Rules.Fit.{is_fit_for}
use Rattle.argo_model.specs.Rules.State.{State}
use Rattle.argo_model.specs.Runs.Final.{totals_after}

abbrev pub is_fit_of : Option Actor → Action → Bool
is_fit_of None a = false
is_fit_of (Some actor) a = is_fit_for actor a

-- section v is there, and may perform the action
abbrev pub is_fit_at : List Actor → ℕ → Action → Bool
is_fit_at actors v a = is_fit_of (slice_get actors v) a

abbrev pub is_within : Option Totals → Bool
is_within None = false
is_within (Some t) = nat_lt t.steps (2 ^ 32)

-- section v is there, and has fewer than 2^32 steps
abbrev pub has_steps_left : List Totals → ℕ → Bool
has_steps_left ts v = is_within (slice_get ts v)

-- where the state is told, the outcome is that of the action, and so is the new state
abbrev pub ActsAs : Actor → Action → Option State → Outcome → Option State → Type 0
ActsAs actor a None o after = after ≡ None
ActsAs actor a (Some s) o after = (o ≡ (act actor a s).outcome) × (after ≡ Some (act actor a s).state)

abbrev pub ActsAt : Option Actor → Action → Option State → Outcome → Option State → Type 0
ActsAt None a before o after = ⊥
ActsAt (Some actor) a before o after = ActsAs actor a before o after

-- section v acts so
abbrev pub ActsIn : List Actor → ℕ → Action → Option State → Outcome → Option State → Type 0
ActsIn actors v a before o after = ActsAt (slice_get actors v) a before o after

abbrev pub counted_of : List Totals → ℕ → Outcome → Option Totals → List Totals
counted_of ts v o None = ts
counted_of ts v o (Some t) = slice_set ts v (totals_after t o)

-- the totals after an action of section v with this outcome: a step more, and what an accepted message counts
abbrev pub counted_at : List Totals → ℕ → Outcome → List Totals
counted_at ts v o = counted_of ts v o (slice_get ts v)

-- the steps of all sections
abbrev pub steps_of : List Totals → ℕ
steps_of totals = sum_by (λ t. t.steps) totals

-- the fetch of a piece
abbrev pub fetch_of : Piece → Action
fetch_of p = Fetch p.page p.off p.n

-- the outcome of a fetch that shows no bytes
abbrev pub outcome_unseen : Unseen → Outcome
outcome_unseen Fault = NoPage
outcome_unseen Gone = NoCaller

-- the act that delivers a load to an address
abbrev pub delivered_to : Address → Load → Action
delivered_to a load = Deliver a.port a.to a.to_port a.kind load
