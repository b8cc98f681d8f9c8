-- Which ring a message meets.
use Rattle.std.specs.Prelude.{ℕ, Bool, ◌==◌, List, Option, option_map}
use Rattle.std.specs.Option.{option_or}
use Rattle.std.specs.declared.cmp.Ordering.{Ordering}
use Rattle.std.specs.Ordering.{nat_cmp, ordering_then}
use Rattle.std.specs.Map.{lookup}
use Rattle.std.specs.BTreeMap.{is_at}
use Rattle.argo_base.specs.declared.ring_key.RingId.{RingId}
use Rattle.argo_base.specs.declared.ring_key.RingKey.{RingKey}

-- the partner of a ring that takes messages from every domain
abbrev pub wildcard : ℕ
wildcard = 0x7FF4

abbrev pub is_wildcard : ℕ → Bool
is_wildcard d = d == wildcard

-- the order of keys: by port, and then by partner
abbrev pub key_cmp : RingKey → RingKey → Ordering
key_cmp a b = ordering_then (nat_cmp a.port b.port) (nat_cmp a.partner b.partner)

-- the order of ring ids: by owner, then by port, and then by partner
abbrev pub id_cmp : RingId → RingId → Ordering
id_cmp a b = ordering_then (ordering_then (nat_cmp a.owner b.owner) (nat_cmp a.port b.port)) (nat_cmp a.partner b.partner)

-- the key of a ring
abbrev pub key_of : ℕ → ℕ → RingKey
key_of port partner = record { port = port; partner = partner }

-- the key of a ring among those of its owner
abbrev pub key_in : RingId → RingKey
key_in id = key_of id.port id.partner

-- the ring under a key, beside the key
abbrev pub at_key : {X : Type 0} → List (RingKey × X) → RingKey → Option (RingKey × X)
at_key rings key = option_map (λ ring. (key, ring)) (lookup (is_at (key_cmp key)) rings)

-- the ring that a sender meets at a port: the one for this sender, else the wildcard ring, else none
abbrev pub match_of : {X : Type 0} → List (RingKey × X) → ℕ → ℕ → Option (RingKey × X)
match_of rings port sender = option_or (at_key rings (key_of port sender)) (at_key rings (key_of port wildcard))
