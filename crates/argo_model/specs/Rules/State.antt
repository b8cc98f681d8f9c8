-- What an Argo machine is in: its domains by rising id, with their memory, flags and rings.
use Rattle.std.specs.Prelude.{ℕ, ◌*◌, ◌/◌, Bool, true, false, ◌==◌, nat_lt, if◌then◌else◌, List, [], replicate, length, Option, Some, None, is_some, unwrap_or, option_map, option_and_then, fold}
use Rattle.std.specs.Ordering.{nat_cmp}
use Rattle.std.specs.Map.{lookup, set_value}
use Rattle.std.specs.BTreeMap.{is_at, insert_entry}
use Rattle.argo_base.specs.declared.message.Message.{Message}
use Rattle.argo_base.specs.declared.ring_key.RingKey.{RingKey}
use Rattle.argo_base.specs.Notices.{Notices}
use Rattle.argo_model.specs.declared.scripts.DomainLine.{DomainLine}

-- a ring: its number among the rings that its owner made in this generation, from 1; the count of its slot bytes; the owner's
-- pages that hold its header and its slots, in order; the place in the slots where the next message is written; whether it is
-- clean; the accepted messages that were not taken yet, oldest first, none where it is dirty; and who waits for room
pub record Ring : Type 0 where
  pub serial : ℕ
  pub len : ℕ
  pub pages : List ℕ
  pub tx : ℕ
  pub clean : Bool
  pub untaken : List Message
  pub notices : Notices

-- what only a domain that is alive has: its memory, 4,096 bytes a page; its flag; the serial of the next ring that it makes; and
-- its rings by rising key
pub record Live : Type 0 where
  pub bytes : List ℕ
  pub flag : Bool
  pub next_serial : ℕ
  pub rings : List (RingKey × Ring)

-- a domain: whether it may use Argo and how many pages it has, which never change; how often it was made, from 1; and its life,
-- where it is not gone
pub record Domain : Type 0 where
  pub on : Bool
  pub pages : ℕ
  pub generation : ℕ
  pub life : Option Live

abbrev pub State : Type 0
State = List (ℕ × Domain)

-- the domain of an id
abbrev pub domain_of : State → ℕ → Option Domain
domain_of s d = lookup (is_at (nat_cmp d)) s

-- the state with this domain under its id, which was there
abbrev pub set_domain : State → ℕ → Domain → State
set_domain s d x = set_value (is_at (nat_cmp d)) s x

-- what is left of a domain where it lives, in the generation that a section names
abbrev pub life_in : ℕ → Domain → Option Live
life_in generation x = if x.generation == generation then x.life else None

-- what a domain has that is alive
abbrev pub live_of : State → ℕ → Option Live
live_of s d = option_and_then (λ x. x.life) (domain_of s d)

-- the domain is there, and alive
abbrev pub is_alive : State → ℕ → Bool
is_alive s d = is_some (live_of s d)

-- the domain is there, and on
abbrev pub is_on : State → ℕ → Bool
is_on s d = unwrap_or (option_map (λ x. x.on) (domain_of s d)) false

-- the state in which a domain that is there has changed so
abbrev pub change_found : State → ℕ → (Domain → Domain) → Option Domain → State
change_found s d change None = s
change_found s d change (Some x) = set_domain s d (change x)

abbrev pub change_domain : State → ℕ → (Domain → Domain) → State
change_domain s d change = change_found s d change (domain_of s d)

-- a domain of which what it has alive has changed so
abbrev pub change_life : (Live → Live) → Domain → Domain
change_life change x = record x { life = option_map change x.life }

-- the domain's flag is set, where it is alive
abbrev pub flagged : Live → Live
flagged live = record live { flag = true }

abbrev pub signalled : Domain → Domain
signalled x = change_life flagged x

abbrev pub signal : State → ℕ → State
signal s d = change_domain s d signalled

-- these domains are signalled, one after another
abbrev pub signal_all : State → List ℕ → State
signal_all s ds = fold signal s ds

-- the memory has the page
abbrev pub has_page : Live → ℕ → Bool
has_page live page = nat_lt page (length live.bytes / 4096)

-- a domain as it starts: its pages are zeros, its flag is clear, it has no rings, and its next serial is 1
abbrev pub fresh_live : ℕ → Live
fresh_live pages = record { bytes = replicate (4096 * pages) 0; flag = false; next_serial = 1; rings = [] }

abbrev pub fresh_domain : DomainLine → Domain
fresh_domain l = record { on = l.on; pages = l.pages; generation = 1; life = Some (fresh_live l.pages) }

-- the state in which a run starts: every domain of the script is alive with generation 1
abbrev pub start_state : List DomainLine → State
start_state lines = fold (λ s l. insert_entry nat_cmp s l.id (fresh_domain l)) [] lines
