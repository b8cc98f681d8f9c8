-- Names of rings that hold through a whole run.
use Rattle.std.specs.Prelude.{ℕ, Bool, false, ◌&&◌, ◌==◌, find, unwrap_or, Option, option_map, option_and_then}
use Rattle.argo_model.specs.declared.scripts.Actor.{Actor}
use Rattle.argo_model.specs.declared.scripts.Actor.TheVariants.{Vcpu, Control}
use Rattle.argo_model.specs.Rules.State.{Domain, Live, State, domain_of, life_in}
use Rattle.argo_base.specs.Notices.{size_of}
use Rattle.argo_model.specs.Rules.Matches.{RingAt, match_at}

-- a ring's name: its owner in one of the owner's generations, and its serial there, which no other ring ever has
pub record RingName : Type 0 where
  pub owner : ℕ
  pub generation : ℕ
  pub serial : ℕ

-- the name of a ring that stands
abbrev pub name_of : RingAt → RingName
name_of m = record { owner = m.owner; generation = m.domain.generation; serial = m.ring.serial }

abbrev pub has_name : RingName → RingAt → Bool
has_name name m = (m.owner == name.owner) && (m.domain.generation == name.generation) && (m.ring.serial == name.serial)

-- the actor is a virtual CPU of the ring's owner, in the ring's generation
abbrev pub is_owner : Actor → RingName → Bool
is_owner (Vcpu d generation) name = (d == name.owner) && (generation == name.generation)
is_owner Control name = false

-- what the owner of a ring has, where it lives in the ring's generation
abbrev pub owner_in : State → RingName → Option Live
owner_in s name = option_and_then (life_in name.generation) (domain_of s name.owner)

-- the test holds of a ring that is there
abbrev pub is_there_and : (RingAt → Bool) → Option RingAt → Bool
is_there_and test m = unwrap_or (option_map test m) false

-- the ring that a domain meets at a port of another has this name
abbrev pub is_met : State → RingName → (to to_port d : ℕ) → Bool
is_met s name to to_port d = is_there_and (has_name name) (match_at s to to_port d)

-- the ring of a name where it stands
abbrev pub standing_in : RingName → Domain → Live → Option RingAt
standing_in name x live =
    option_map
    (λ e. record { owner = name.owner; domain = x; live = live; key = e.0; ring = e.1 })
    (find (λ e. e.1.serial == name.serial) live.rings)

abbrev pub standing_of_owner : RingName → Domain → Option RingAt
standing_of_owner name x = option_and_then (standing_in name x) (life_in name.generation x)

abbrev pub standing : State → RingName → Option RingAt
standing s name = option_and_then (standing_of_owner name) (domain_of s name.owner)

-- the size that a domain waits for on the ring of a name
abbrev pub notice_on : State → RingName → ℕ → Option ℕ
notice_on s name d = option_and_then (λ m. size_of m.ring.notices d) (standing s name)
