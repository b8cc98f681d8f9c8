-- The ring that a message or a question meets.
use Rattle.std.specs.Prelude.{ℕ, if◌then◌else◌, Option, None, option_map, option_and_then}
use Rattle.argo_base.specs.declared.ring_key.RingKey.{RingKey}
use Rattle.argo_base.specs.Match.{match_of}
use Rattle.argo_model.specs.Rules.State.{State, Domain, Live, Ring, domain_of}
use Rattle.argo_model.specs.Rules.RingBytes.{PagedRing, paged}

-- a ring where it stands: its owner, with what the owner has, its key and itself
pub record RingAt : Type 0 where
  pub owner : ℕ
  pub domain : Domain
  pub live : Live
  pub key : RingKey
  pub ring : Ring

-- with its own bytes
abbrev pub paged_at : RingAt → PagedRing
paged_at at = paged at.live.bytes at.ring

abbrev pub match_in : ℕ → Domain → Live → ℕ → ℕ → Option RingAt
match_in to x live port sender =
    option_map (λ e. record { owner = to; domain = x; live = live; key = e.0; ring = e.1 }) (match_of live.rings port sender)

-- the ring that a sender meets at a port of a domain: none where the domain is not alive, is off, or has no match
abbrev pub match_of_domain : ℕ → ℕ → ℕ → Domain → Option RingAt
match_of_domain to port sender x = if x.on then option_and_then (λ live. match_in to x live port sender) x.life else None

abbrev pub match_at : State → ℕ → ℕ → ℕ → Option RingAt
match_at s to port sender = option_and_then (match_of_domain to port sender) (domain_of s to)
