-- The state with the lists by which the ends of domains go, and what always holds of these.
use Rattle.std.specs.Prelude.{◌≡◌, ℕ, ◌==◌, ◌&&◌, Bool}
use Rattle.argo_base.specs.Match.{is_wildcard}
use Rattle.argo_base.specs.declared.ring_key.RingId.{RingId}
use Rattle.argo_model.specs.Rules.State.{State}
use Rattle.domain_lists.specs.Lists.{RingLists, names}
use Rattle.state_laws.specs.Valid.{IsValid}
use Rattle.domains.specs.ById.{stands, is_noted}

-- the state; each domain's send list, the rings that are registered for it as partner; and each domain's wildcard list, the
-- wildcard rings that hold a notice of it. The list of the wildcard's own number names the wildcard rings
pub record Levels : Type 0 where
  pub state : State
  pub sends : RingLists
  pub waits : RingLists

-- a ring of this id stands, and is for the domain
abbrev pub is_for : State → ℕ → RingId → Bool
is_for s d id = (id.partner == d) && stands s id

-- a wildcard ring of this id stands, and the domain waits on it
abbrev pub waits_on : State → ℕ → RingId → Bool
waits_on s d id = is_wildcard id.partner && is_noted s id d

-- each list names exactly what it must
abbrev pub AreSends : State → RingLists → Type 0
AreSends s sends = (d : ℕ) (id : RingId) → names sends d id ≡ is_for s d id

abbrev pub AreWaits : State → RingLists → Type 0
AreWaits s waits = (d : ℕ) (id : RingId) → names waits d id ≡ waits_on s d id

-- the state is one that runs come to, and the lists are exact
pub record AreLevel (w : Levels) : Type 0 where
  pub valid : IsValid w.state
  pub sends : AreSends w.state w.sends
  pub waits : AreWaits w.state w.waits
