-- The rings of a state by their ids, and who waits on them.
use Rattle.std.specs.Prelude.{ℕ, Bool, if◌then◌else◌, List, [], is_some, unwrap_or, Option, Some, None, option_map}
use Rattle.argo_base.specs.Match.{key_of, key_in, wildcard}
use Rattle.argo_base.specs.declared.ring_key.RingId.{RingId}
use Rattle.argo_base.specs.declared.ring_key.RingKey.{RingKey}
use Rattle.argo_model.specs.Rules.Register.{own_ring, without_ring}
use Rattle.argo_model.specs.Rules.State.{State, Live, Ring, live_of, change_domain, change_life}
use Rattle.argo_model.specs.Rules.Sweep.{next_ring}
use Rattle.live_domain.specs.Keyed.{has_notice, without_notice}

-- the id of a domain's ring
abbrev pub id_in : ℕ → RingKey → RingId
id_in d key = record { owner = d; port = key.port; partner = key.partner }

-- the rings of a domain: one that is not alive has none
abbrev pub rings_in : Option Live → List (RingKey × Ring)
rings_in None = []
rings_in (Some live) = live.rings

abbrev pub rings_of : State → ℕ → List (RingKey × Ring)
rings_of s d = rings_in (live_of s d)

abbrev pub ring_in : Option Live → RingKey → Option Ring
ring_in None key = None
ring_in (Some live) key = own_ring live key

-- the ring of an id
abbrev pub ring_at : State → RingId → Option Ring
ring_at s id = ring_in (live_of s id.owner) (key_in id)

-- a ring of the id stands
abbrev pub stands : State → RingId → Bool
stands s id = is_some (ring_at s id)

-- it has a notice of the domain
abbrev pub is_noted : State → RingId → ℕ → Bool
is_noted s id d = has_notice (ring_at s id) d

-- the id of the ring that a sender meets at a port, if it meets one: the ring for this sender, else the wildcard ring
abbrev pub met_id : State → ℕ → ℕ → ℕ → RingId
met_id s to port sender =
    if stands s (id_in to (key_of port sender)) then id_in to (key_of port sender) else id_in to (key_of port wildcard)

-- the key of the ring that a domain sweeps next, or that of port 0 where it has none to sweep
abbrev pub next_key : State → ℕ → ℕ → RingKey
next_key s d serial = unwrap_or (option_map (λ e. e.0) (next_ring serial (rings_of s d))) (key_of 0 wildcard)

abbrev pub end_key : RingId → Live → Live
end_key id live = without_ring live (key_in id)

-- the state without the ring of an id
abbrev pub ring_ended : State → RingId → State
ring_ended s id = change_domain s id.owner (change_life (end_key id))

abbrev pub forget_key : RingId → ℕ → Live → Live
forget_key id d live = without_notice live (key_in id) d

-- the state without a notice on the ring of an id
abbrev pub notice_ended : State → RingId → ℕ → State
notice_ended s id d = change_domain s id.owner (change_life (forget_key id d))
