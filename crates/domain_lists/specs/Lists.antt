-- A list of rings for each domain, and what it is to name a ring.
use Rattle.std.specs.Prelude.{ℕ, ◌≤◌, ◌==◌, ◌&&◌, Bool, List, [], length, unwrap_or}
use Rattle.std.specs.Ordering.{nat_cmp}
use Rattle.std.specs.Map.{lookup}
use Rattle.std.specs.BTreeMap.{is_at}
use Rattle.argo_base.specs.Match.{id_cmp}
use Rattle.argo_base.specs.RingIds.{has_id}
use Rattle.argo_base.specs.declared.ring_key.RingId.{RingId}

-- the lists that are there, by rising domain
abbrev pub RingLists : Type 0
RingLists = List (ℕ × List RingId)

-- the list of a domain: one that is not there is empty
abbrev pub ids_of : RingLists → ℕ → List RingId
ids_of lists d = unwrap_or (lookup (is_at (nat_cmp d)) lists) []

-- the list of the domain names the ring
abbrev pub names : RingLists → ℕ → RingId → Bool
names lists d id = has_id (ids_of lists d) id

-- these are the domain and the ring
abbrev pub is_pair : ℕ → RingId → ℕ → RingId → Bool
is_pair dom id d x = (d == dom) && is_at (id_cmp id) x

-- no domain's list is longer than it was
abbrev pub AreNoLonger : RingLists → RingLists → Type 0
AreNoLonger old new = (d : ℕ) → length (ids_of new d) ≤ length (ids_of old d)
