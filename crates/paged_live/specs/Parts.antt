-- What a live domain is made of, what the rules see of it, and what always holds of it.
use Rattle.std.specs.Prelude.{◌≡◌, ℕ, ◌*◌, ◌<◌, Bool, List, length, map, Option, Some, option_map}
use Rattle.std.specs.List.Sorted.{IsStrictlySortedBy}
use Rattle.std.specs.Map.{keys_of}
use Rattle.argo_base.specs.declared.ring_key.RingKey.{RingKey}
use Rattle.argo_base.specs.Limits.{page_bytes}
use Rattle.argo_base.specs.Match.{key_cmp, key_in}
use Rattle.argo_model.specs.Rules.State.{Ring, Live}
use Rattle.argo_model.specs.Rules.RingBytes.{PagedRing}
use Rattle.guest_pages.specs.Pages.{page_at}
use Rattle.guest_pages.specs.Rows.{numbers_of, row_bytes}
use Rattle.ring_core.specs.Held.{Held, paged}
use Rattle.ring_table.specs.Rows.{Held as Row, held_at}
use Rattle.paged_live.specs.declared.home.Home.{Home}
use Rattle.paged_live.specs.Homes.{home_at}
use Rattle.paged_live.specs.Store.{Store, memory, IsStore}

-- the rings of a domain by rising key, each with its serial
abbrev pub Rows : Type 0
Rows = List (RingKey × Row Held)

-- its pages by number, or none where a page is lent; where each of these stands; its flag; its next serial; and its rings
pub record Parts : Type 0 where
  pub private : List (Option (List ℕ))
  pub homes : List (Option Home)
  pub flag : Bool
  pub next_serial : ℕ
  pub rows : Rows

-- a ring as the rules have it, with its own bytes
abbrev pub stood : Row Held → PagedRing
stood h = paged h.serial h.value

abbrev pub ring_in : Rows → RingKey → Option PagedRing
ring_in rows key = option_map stood (held_at rows key)

-- the pages, where they stand
abbrev pub store_of : Parts → Store
store_of x = record { count = length x.private; page = page_at x.private; home = home_at x.homes; ring = ring_in x.rows }

-- the rings, without their bytes
abbrev pub ring_of : Row Held → Ring
ring_of h = (stood h).ring

abbrev pub rings_of : Rows → List (RingKey × Ring)
rings_of rows = map (λ e. (e.0, ring_of e.1)) rows

-- what the rules see
abbrev pub seen : Parts → Live
seen x = record { bytes = memory (store_of x); flag = x.flag; next_serial = x.next_serial; rings = rings_of x.rows }

-- the keys rise, a ring stands under its own key, and its serial is its own, above 0, and below the next
pub record AreNamed (rows : Rows) (next : ℕ) : Type 0 where
  pub rising : IsStrictlySortedBy key_cmp (keys_of rows)
  pub key : (k : RingKey) (h : Row Held) → held_at rows k ≡ Some h → key_in h.value.id ≡ k
  pub young : (k : RingKey) (h : Row Held) → held_at rows k ≡ Some h → h.serial < next
  pub first : 0 < next
  pub some : (k : RingKey) (h : Row Held) → held_at rows k ≡ Some h → 0 < h.serial
  pub differ : (k q : RingKey) (g h : Row Held) → held_at rows k ≡ Some g → held_at rows q ≡ Some h → g.serial ≡ h.serial → k ≡ q

pub record IsParts (x : Parts) : Type 0 where
  pub homes : length x.homes ≡ length x.private
  pub store : IsStore (store_of x)
  pub named : AreNamed x.rows x.next_serial

-- a ring that keeps its name and its pages, each with as many bytes
pub record StandsStill (old new : Held) : Type 0 where
  pub id : new.id ≡ old.id
  pub pages : numbers_of new.row ≡ numbers_of old.row
  pub sized : length (row_bytes new.row) ≡ page_bytes * length new.row
