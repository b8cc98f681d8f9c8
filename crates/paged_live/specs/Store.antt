-- The pages of a domain, where they stand: by themselves, or in one of its rings; and the memory that they are.
use Rattle.std.specs.Prelude.{◌≡◌, ℕ, ◌*◌, ◌<◌, List, length, take, drop, Option, Some, None, option_map, unwrap_or, slice_index}
use Rattle.argo_base.specs.declared.ring_key.RingKey.{RingKey}
use Rattle.paged_live.specs.declared.home.Home.{Home}
use Rattle.paged_live.specs.Homes.{home}
use Rattle.argo_model.specs.Rules.RingBytes.{PagedRing}
use Rattle.guest_pages.specs.PageBytes.{zero_page}
use Rattle.ring_core.specs.Flat.{flat}

-- so many pages; the bytes of each that stands by itself; where each that is lent stands; and the rings by their keys
pub record Store : Type 0 where
  pub count : ℕ
  pub page : ℕ → Option (List ℕ)
  pub home : ℕ → Option Home
  pub ring : RingKey → Option PagedRing

-- the bytes of the page at a place of a ring's own bytes
abbrev pub piece : ℕ → List ℕ → List ℕ
piece place own = take 4096 (drop (4096 * place) own)

-- the bytes of the page that stands there
abbrev pub lent_page : (RingKey → Option PagedRing) → Option Home → List ℕ
lent_page ring None = zero_page
lent_page ring (Some h) = unwrap_or (option_map (λ p. piece h.place p.own) (ring h.key)) zero_page

-- the bytes of a page, wherever it stands
abbrev pub page_of : Store → ℕ → List ℕ
page_of s n = unwrap_or (s.page n) (lent_page s.ring (s.home n))

-- the memory: all pages, one after another
abbrev pub memory : Store → List ℕ
memory s = flat (page_of s) s.count

-- a page stands in a ring at a place of it
pub record Lies (s : Store) (n : ℕ) (h : Home) : Type 0 where
  pub found : PagedRing
  pub ring : s.ring h.key ≡ Some found
  pub below : h.place < length found.ring.pages
  pub at : slice_index found.ring.pages h.place ≡ n

-- each page stands in one place, and has 4,096 bytes: by itself, or in the one ring that its home names; and a page of a ring has
-- its home there
pub record IsStore (s : Store) : Type 0 where
  pub whole : (n : ℕ) (p : List ℕ) → s.page n ≡ Some p → length p ≡ 4096
  pub inside : (n : ℕ) (p : List ℕ) → s.page n ≡ Some p → n < s.count
  pub apart : (n : ℕ) (p : List ℕ) → s.page n ≡ Some p → s.home n ≡ None
  pub somewhere : (n : ℕ) → n < s.count → s.page n ≡ None → s.home n ≡ None → ⊥
  pub there : (n : ℕ) (h : Home) → s.home n ≡ Some h → n < s.count
  pub lies : (n : ℕ) (h : Home) → s.home n ≡ Some h → Lies s n h
  pub known : (key : RingKey) (p : PagedRing) → s.ring key ≡ Some p → (i : ℕ) → i < length p.ring.pages → s.home (slice_index p.ring.pages i) ≡ Some (home key i)
  pub sized : (key : RingKey) (p : PagedRing) → s.ring key ≡ Some p → length p.own ≡ 4096 * length p.ring.pages
