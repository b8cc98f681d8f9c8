-- What holds of every state that a run comes to.
use Rattle.std.specs.Prelude.{◌≡◌, ◌≢◌, ℕ, ◌/◌, ◌<◌, ◌≤◌, Bool, true, false, ◌||◌, ◌==◌, IsTrue, IfSome, List, [], length}
use Rattle.argo_base.specs.declared.ring_key.RingKey.{RingKey}
use Rattle.argo_base.specs.Limits.{most_notices}
use Rattle.argo_base.specs.Match.{is_wildcard}
use Rattle.argo_base.specs.Slots.{is_legal, is_place, page_count}
use Rattle.argo_model.specs.Rules.Holds.{Holds}
use Rattle.argo_model.specs.Rules.Limits.{most_rings}
use Rattle.argo_model.specs.Rules.Register.{all_differ, can_fit, has_number}
use Rattle.argo_model.specs.Rules.RingBytes.{ring_bytes, rx_word, tx_word, slots}
use Rattle.argo_model.specs.Rules.State.{Live, Ring, State, is_alive}
use Rattle.state_laws.specs.Each.{Each, EachTwo}

-- a clean ring, of these bytes: both its words are places of it, the tx word is the place where the hypervisor goes on, and its
-- slots hold its untaken messages between the two
pub record IsHeld (own : List ℕ) (r : Ring) : Type 0 where
  pub rx_is_place : IsTrue (is_place r.len (rx_word own))
  pub tx_is_word : tx_word own ≡ r.tx
  pub holds : Holds (slots r.len own) r.len (rx_word own) r.tx r.untaken

-- a dirty ring keeps no list of untaken messages
abbrev pub KeepsUntaken : Bool → List ℕ → Ring → Type 0
KeepsUntaken true own r = IsHeld own r
KeepsUntaken false own r = r.untaken ≡ []

-- a notice on a ring of this length under this key, where these domains are alive: its size can fit; its domain is alive; and it
-- is the ring's partner, or the ring is for every domain
pub record IsNotice (alive : ℕ → Bool) (key : RingKey) (len : ℕ) (n : ℕ × ℕ) : Type 0 where
  pub size_can_fit : IsTrue (can_fit len n)
  pub is_alive : IsTrue (alive n.0)
  pub may_wait : IsTrue (is_wildcard key.partner || (key.partner == n.0))

-- a ring under its key in its owner's memory: it has a legal length, the pages that this takes, which are there and differ, and a
-- place to go on at; and it has a notice a domain, by rising domain, and no more than there may be
pub record IsRing (alive : ℕ → Bool) (memory : List ℕ) (e : RingKey × Ring) : Type 0 where
  pub legal : IsTrue (is_legal e.1.len)
  pub paged : length e.1.pages ≡ page_count e.1.len
  pub pages_are_there : Each (λ page. page < length memory / 4096) e.1.pages
  pub pages_differ : IsTrue (all_differ e.1.pages)
  pub tx_is_place : IsTrue (is_place e.1.len e.1.tx)
  pub untaken : KeepsUntaken e.1.clean (ring_bytes memory e.1.pages) e.1
  pub one_notice_each : EachTwo (λ a b. a.0 < b.0) e.1.notices
  pub few_notices : length e.1.notices ≤ most_notices
  pub notices : Each (IsNotice alive e.0 e.1.len) e.1.notices

-- no page is in both lists
abbrev pub ShareNone : List ℕ → List ℕ → Type 0
ShareNone pages others = Each (λ page. has_number others page ≡ false) pages

-- two rings of a domain have different keys and different serials, and no page in common
pub record AreApart (a b : RingKey × Ring) : Type 0 where
  pub keys : a.0 ≢ b.0
  pub serials : a.1.serial ≢ b.1.serial
  pub pages : ShareNone a.1.pages b.1.pages

-- what a domain has alive: no more rings than may stand, each with a serial below the next one, and every two of them apart
pub record IsLive (alive : ℕ → Bool) (live : Live) : Type 0 where
  pub few_rings : length live.rings ≤ most_rings
  pub serials_are_made : Each (λ e. e.1.serial < live.next_serial) live.rings
  pub rings : Each (IsRing alive live.bytes) live.rings
  pub apart : EachTwo AreApart live.rings

-- domains by rising id, and what each has that is alive
pub record IsValid (s : State) : Type 0 where
  pub one_domain_each : EachTwo (λ a b. a.0 < b.0) s
  pub lives : Each (λ e. IfSome e.1.life (IsLive (is_alive s))) s
