-- What contracts see of the rings of a domain: the key of each with its serial, the serial of the next one, and where the domain's pages
-- stand. The rings themselves lie behind locks, so of each no more is known than what always holds of a ring.
use Rattle.std.specs.Prelude.{◌≡◌, ℕ, ◌+◌, ◌<◌, ◌≤◌, ◌-◌, ◌^◌, ◌==◌, Bool, min, List, [], ◌∷◌, length, replicate, filter, Option, Some, None, is_some, option_map, IsTrue}
use Rattle.std.specs.Map.{lookup, remove_entry}
use Rattle.std.specs.BTreeMap.{is_at, insert_entry}
use Rattle.argo_base.specs.declared.ring_key.RingKey.{RingKey}
use Rattle.argo_base.specs.Match.{key_cmp, match_of}
use Rattle.argo_base.specs.Notices.{Notices, never_fits, doms_of}
use Rattle.guest_pages.specs.Pages.{can_lend, with_row, without}
use Rattle.guest_pages.specs.Rows.{numbers_of}
use Rattle.ring_core.specs.Held.{Held}
use Rattle.ring_table.specs.Rows as rows
use Rattle.shared_parts.specs.declared.homes.Home.{Home}
use Rattle.shared_parts.specs.Homes.{home_at, settled, cleared}

-- the keys by rising order, each with its ring's serial; the serial of the next ring; and for each page of the domain its home
pub record Registry : Type 0 where
  pub serials : List (RingKey × ℕ)
  pub next : ℕ
  pub homes : List (Option Home)

-- each row of the table has its ring
abbrev pub AreTaken : {X : Type 0} → List (RingKey × rows.Held (Option X)) → Type 0
AreTaken [] = Unit {0}
AreTaken (e ∷ es) = IsTrue (is_some e.1.value) × AreTaken es

-- no rings, and so many pages
abbrev pub no_rings : ℕ → Registry
no_rings pages = record { serials = []; next = 1; homes = replicate pages None }

-- the serial of the ring under a key
abbrev pub serial_at : Registry → RingKey → Option ℕ
serial_at r key = lookup (is_at (key_cmp key)) r.serials

-- whether a ring stands under a key
abbrev pub has_ring : Registry → RingKey → Bool
has_ring r key = is_some (serial_at r key)

-- whether a sender meets a ring at a port
abbrev pub has_match : Registry → ℕ → ℕ → Bool
has_match r port sender = is_some (match_of r.serials port sender)

-- whether there are as many rings as a domain may have
abbrev pub is_full : Registry → Bool
is_full r = length r.serials == rows.most_rows

-- the place of a page, where the ring of its home stands
abbrev pub place_in : Registry → Option Home → Option ℕ
place_in r None = None
place_in r (Some h) = option_map (λ _. h.place) (serial_at r h.key)

abbrev pub place_of : Registry → ℕ → Option ℕ
place_of r page = place_in r (home_at r.homes page)

-- no ring has a serial above
abbrev pub NoneAbove : Registry → ℕ → Type 0
NoneAbove r serial = (key : RingKey) (s : ℕ) → serial_at r key ≡ Some s → s ≤ serial

-- a ring has this serial, which is above another, and no serial above that one is less
pub record IsNext (r : Registry) (serial next : ℕ) : Type 0 where
  pub key : RingKey
  pub stands : serial_at r key ≡ Some next
  pub above : serial < next
  pub least : (q : RingKey) (s : ℕ) → serial_at r q ≡ Some s → serial < s → next ≤ s

-- the next serial, up to the last
abbrev pub next_serial : ℕ → ℕ
next_serial s = min (s + 1) (2 ^ 64 - 1)

-- with a ring more, on pages of these numbers
abbrev pub with_ring : Registry → RingKey → List ℕ → Registry
with_ring r key numbers =
    record {
      serials = insert_entry key_cmp r.serials key r.next;
      next = next_serial r.next;
      homes = settled key 0 numbers r.homes;
    }

-- with these homes
abbrev pub with_homes : Registry → List (Option Home) → Registry
with_homes r homes = record r { homes = homes }

-- without the ring of a key, whose pages have these numbers
abbrev pub without_ring : Registry → RingKey → List ℕ → Registry
without_ring r key numbers =
    record {
      serials = remove_entry (is_at (key_cmp key)) r.serials;
      next = r.next;
      homes = cleared numbers r.homes;
    }

-- a domain's pages, those that stand in no ring
abbrev pub Privates : Type 0
Privates = List (Option (List ℕ))

-- a ring ended: its pages went back to the private ones and have no home, and its notices came back. What it was is not known
-- but by that
pub record IsEnded (old new : Registry) (before after : Privates) (key : RingKey) (notices : Notices) : Type 0 where
  pub ring : Held
  pub left : new ≡ without_ring old key (numbers_of ring.row)
  pub back : after ≡ with_row before ring.row
  pub ended : notices ≡ ring.notices

-- a ring started anew on pages of these numbers: its old ones went back before, and the domains whose notices can fit no more came
pub record IsRestarted (old new : Registry) (before after : Privates) (key : RingKey) (len : ℕ) (numbers : List ℕ) (ended : List ℕ) : Type 0 where
  pub ring : Held
  pub could : IsTrue (can_lend (with_row before ring.row) numbers)
  pub lent : after ≡ without (with_row before ring.row) numbers
  pub left : new ≡ with_homes old (settled key 0 numbers (cleared (numbers_of ring.row) old.homes))
  pub gone : ended ≡ doms_of (filter (never_fits len) ring.notices)

-- a ring could not start anew: its pages have the homes that it gives them
pub record IsKept (old new : Registry) (key : RingKey) : Type 0 where
  pub ring : Held
  pub left : new ≡ with_homes old (settled key 0 (numbers_of ring.row) (cleared (numbers_of ring.row) old.homes))
