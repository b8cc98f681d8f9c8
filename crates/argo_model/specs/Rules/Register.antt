-- A ring is registered, or registered anew, or taken away.
use Rattle.std.specs.Prelude.{ℕ, ◌+◌, Bool, true, ◌&&◌, not, ◌==◌, nat_le, if◌then◌else◌, List, [], length, filter, is_some, Option, Some, None}
use Rattle.std.specs.List.{list_all, list_any}
use Rattle.std.specs.Str.{bytes_eq}
use Rattle.std.specs.Map.{lookup, remove_entry}
use Rattle.std.specs.BTreeMap.{is_at, insert_entry}
use Rattle.argo_base.specs.declared.errno.Errno.TheVariants.{Srch, NoEnt, NoDev, ConnRefused, Exist, NoSpc, Inval}
use Rattle.argo_base.specs.declared.ring_key.RingKey.{RingKey}
use Rattle.argo_base.specs.Match.{is_wildcard, key_cmp}
use Rattle.argo_model.specs.declared.action.Outcome.TheVariants.{Done}
use Rattle.argo_model.specs.Rules.State.{State, Domain, Live, Ring, is_alive, is_on, has_page}
use Rattle.argo_model.specs.Rules.Limits.{most_rings}
use Rattle.argo_base.specs.Notices.{Notices, never_fits, doms_of}
pub use Rattle.argo_base.specs.Numbers.{has_number, all_differ}
use Rattle.argo_model.specs.Rules.Effects.{Change, Effect, answered, leaving, refuse_if, lifted, change_in}
use Rattle.argo_model.specs.Rules.RingBytes.{PagedRing, paged, laid, set_paged}
use Rattle.argo_model.specs.Rules.Starts.{started}

-- the caller's ring of this key
abbrev pub own_ring : Live → RingKey → Option Ring
own_ring live key = lookup (is_at (key_cmp key)) live.rings

abbrev pub has_ring : Live → RingKey → Bool
has_ring live key = is_some (own_ring live key)

-- a page that the ring may stand on: the caller has it, and no other ring of the caller stands on it
abbrev pub is_free_for : Live → RingKey → ℕ → Bool
is_free_for live key page =
    has_page live page
    && not (list_any (λ e. not (is_at (key_cmp key) e.0) && has_number e.1.pages page) live.rings)

abbrev pub are_free_for : Live → RingKey → List ℕ → Bool
are_free_for live key pages = list_all (is_free_for live key) pages && all_differ pages

-- a notice that can still fit into a ring of this length
abbrev pub can_fit : ℕ → ℕ × ℕ → Bool
can_fit len n = not (never_fits len n)

-- a ring of this length on these pages, with its serial and the notices that can still fit
abbrev pub resized : Ring → ℕ → List ℕ → Ring
resized r len pages = record r { len = len; pages = pages; notices = filter (can_fit len) r.notices }

-- the ring starts on its new pages, and the domains whose notices are too big for it are signalled
abbrev pub restart : PagedRing → Notices → ℕ → Change PagedRing
restart p old len = record { outcome = Done; left = Some (started p); signals = doms_of (filter (never_fits len) old) }

abbrev pub register_anew : Live → RingKey → Ring → ℕ → List ℕ → Change Live
register_anew live key r len pages =
    lifted (set_paged live key) (restart (paged live.bytes (resized r len pages)) r.notices len)

-- a new ring with the domain's next serial, without notices, before it starts
abbrev pub new_ring : ℕ → ℕ → List ℕ → Ring
new_ring serial len pages =
    record { serial = serial; len = len; pages = pages; tx = 0; clean = true; untaken = []; notices = [] }

-- what the caller has with a new ring under a key
abbrev pub add_paged : Live → RingKey → PagedRing → Live
add_paged live key p =
    record live {
      bytes = laid p.ring.pages p.own live.bytes;
      next_serial = live.next_serial + 1;
      rings = insert_entry key_cmp live.rings key p.ring;
    }

abbrev pub register_new : Live → RingKey → ℕ → List ℕ → Change Live
register_new live key len pages =
    leaving Done (add_paged live key (started (paged live.bytes (new_ring live.next_serial len pages))))

-- a clean ring of this length on exactly these pages
abbrev pub stands_so : Ring → ℕ → List ℕ → Bool
stands_so r len pages = r.clean && (r.len == len) && bytes_eq r.pages pages

-- a ring that stands so already stays as it is
abbrev pub register_allowed : Live → RingKey → ℕ → List ℕ → Option Ring → Change Live
register_allowed live key len pages None = register_new live key len pages
register_allowed live key len pages (Some r) =
    if stands_so r len pages then answered Done else register_anew live key r len pages

-- among the caller's own rings: the ring must not stand where the caller asked for that; no more rings than may stand; and each
-- page must be free for this ring
abbrev pub register_own : Live → RingKey → ℕ → List ℕ → Bool → Change Live
register_own live key len pages fail_exist =
    refuse_if (has_ring live key && fail_exist) Exist (
    refuse_if (not (has_ring live key) && nat_le most_rings (length live.rings)) NoSpc (
    refuse_if (not (are_free_for live key pages)) Inval (
    register_allowed live key len pages (own_ring live key))))

-- the ring is for one domain alone
abbrev pub is_single : ℕ → Bool
is_single partner = not (is_wildcard partner)

-- the caller registers a ring: a single partner must be alive, the caller on, and the partner on
abbrev pub register : State → ℕ → Domain → Live → RingKey → ℕ → List ℕ → Bool → Effect
register s d x live key len pages fail_exist =
    change_in s d (
    refuse_if (is_single key.partner && not (is_alive s key.partner)) Srch (
    refuse_if (not x.on) NoDev (
    refuse_if (is_single key.partner && not (is_on s key.partner)) ConnRefused (
    register_own live key len pages fail_exist))))

-- what the caller has without the ring of a key
abbrev pub without_ring : Live → RingKey → Live
without_ring live key = record live { rings = remove_entry (is_at (key_cmp key)) live.rings }

-- the ring ends with its notices, and nobody is signalled; its pages stay with their bytes
abbrev pub unregister_own : Domain → Live → RingKey → Change Live
unregister_own x live key =
    refuse_if (not x.on) NoDev (
    refuse_if (not (has_ring live key)) NoEnt (
    leaving Done (without_ring live key)))

abbrev pub unregister : State → ℕ → Domain → Live → RingKey → Effect
unregister s d x live key = change_in s d (unregister_own x live key)
