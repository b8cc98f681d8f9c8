-- Laws of a domain to which a ring comes, on pages that stood by themselves.
use Rattle.std.proofs.Common.{◌≡◌, ◌≢◌, ℕ, zero, suc, ◌*◌, ◌<◌, ◌≤◌, Bool, true, false, ◌||◌, ◌==◌, List, [], ◌∷◌, length, slice_index, Option, Some, None, option_map, IsTrue, ◌⊎◌, inl, inr, ⊎_elim, refl, sym, ap, ◌∙◌, subst, arith}
use Rattle.std.specs.Prelude.{not, is_some}
use Rattle.std.specs.List.{list_all}
use Rattle.std.specs.BTreeMap.{insert_entry}
use Rattle.std.proofs.lemmas.Bool.{cases_eq, false≢true}
use Rattle.std.proofs.lemmas.List.{length-map}
use Rattle.std.proofs.lemmas.Option.{same_Some}
use Rattle.argo_base.specs.declared.ring_key.RingKey.{RingKey}
use Rattle.argo_base.specs.Match.{key_cmp, key_in}
use Rattle.argo_model.specs.Rules.RingBytes.{PagedRing, laid}
use Rattle.argo_base.specs.Numbers as numbers
use Rattle.guest_pages.specs.Pages.{page_at, can_lend, row_of, without}
use Rattle.guest_pages.specs.Rows.{numbers_of, row_bytes}
use Rattle.ring_core.specs.Held.{Held, paged}
use Rattle.ring_core.proofs.TestLaws.{same_number, other_number, both}
use Rattle.ring_table.specs.Rows.{Held as Row, held, held_at}
use Rattle.ring_table.specs.Edits.{with_row}
use Rattle.ring_table.proofs.BucketLaws.{key_total}
use Rattle.ring_table.proofs.EntryLaws.{sorted-insert}
use Rattle.paged_live.specs.Homes.{home, home_at, settled}
use Rattle.paged_live.specs.Store.{Store}
use Rattle.paged_live.specs.Parts.{Parts, stood, store_of, ring_of, seen, IsParts}
use Rattle.paged_live.proofs.PageLaws.{Differ, At}
use Rattle.paged_live.proofs.StoreLaws.{same_key_or_not, Alone}
use Rattle.paged_live.proofs.MoveLaws.{Apart, Joined, joined_store, joined_memory}
use Rattle.paged_live.proofs.RowLaws.{insert_here, insert_other, map-insert_entry}
use Rattle.paged_live.proofs.HomeLaws.{length-settled, settled_at, settled_other, length-without, without_at, without_other}

-- ---- numbers that differ

pub number_there : (ns : List ℕ) (n : ℕ) → numbers.has_number ns n ≡ true → At ns n
number_there [] n there = absurd (false≢true there)
number_there (p ∷ ps) n there =
    ⊎_elim
    (λ same. record { place = 0; below = omega arith; is = same })
    (λ other.
    let rest : numbers.has_number ps n ≡ true = ap (λ b. b || numbers.has_number ps n) (sym (other_number p n other)) ∙ there in
    let a = number_there ps n rest in
    let below = a.below in
    record { place = suc a.place; below = omega arith; is = a.is })
    (cases_eq p n)

pub number_at : (ns : List ℕ) (i n : ℕ) → i < length ns → slice_index ns i ≡ n → numbers.has_number ns n ≡ true
number_at [] i n below at = absurd (omega arith)
number_at (p ∷ ps) zero n below at = ap (λ b. b || numbers.has_number ps n) (same_number p n at)
number_at (p ∷ ps) (suc i) n below at = by (p == n) (number_at ps i n (omega arith) at) where
  by : (b : Bool) → numbers.has_number ps n ≡ true → (b || numbers.has_number ps n) ≡ true
  by true rest = refl
  by false rest = rest

not_true : (b : Bool) → IsTrue (not b) → b ≡ true → ⊥
not_true true h is = false≢true h
not_true false h is = false≢true is

pub all_differ : (ns : List ℕ) → IsTrue (numbers.all_differ ns) → Differ ns
all_differ [] differ i j bi bj same = omega arith
all_differ (p ∷ ps) differ zero zero bi bj same = refl
all_differ (p ∷ ps) differ zero (suc j) bi bj same =
    let h = both (not (numbers.has_number ps p)) (numbers.all_differ ps) differ in
    absurd (not_true (numbers.has_number ps p) h.0 (number_at ps j p (omega arith) (sym same)))
all_differ (p ∷ ps) differ (suc i) zero bi bj same =
    let h = both (not (numbers.has_number ps p)) (numbers.all_differ ps) differ in
    absurd (not_true (numbers.has_number ps p) h.0 (number_at ps i p (omega arith) same))
all_differ (p ∷ ps) differ (suc i) (suc j) bi bj same =
    let h = both (not (numbers.has_number ps p)) (numbers.all_differ ps) differ in
    ap suc (all_differ ps h.1 i j (omega arith) (omega arith) same)

-- ---- pages that can be lent

can_at : (pages : List (Option (List ℕ))) (ns : List ℕ) (i : ℕ) → IsTrue (list_all (λ n. is_some (page_at pages n)) ns) → i < length ns → is_some (page_at pages (slice_index ns i)) ≡ true
can_at pages [] i can below = absurd (omega arith)
can_at pages (n ∷ ns) zero can below = (both (is_some (page_at pages n)) (list_all (λ n. is_some (page_at pages n)) ns) can).0
can_at pages (n ∷ ns) (suc i) can below = can_at pages ns i (both (is_some (page_at pages n)) (list_all (λ n. is_some (page_at pages n)) ns) can).1 (omega arith)

pub alone_at : (s : Store) (n : ℕ) → is_some (s.page n) ≡ true → Alone s n
alone_at s n some = by (s.page n) refl some where
  by : (o : Option (List ℕ)) → s.page n ≡ o → is_some o ≡ true → Alone s n
  by None at some = absurd (false≢true some)
  by (Some b) at some = record { bytes = b; is = at }

-- ---- a ring comes

-- the domain with a ring more, on pages of these numbers
abbrev pub joined : Parts → RingKey → ℕ → ℕ → Held → List ℕ → Parts
joined x key serial next v ns =
    record x {
      private = without x.private ns;
      homes = settled key 0 ns x.homes;
      next_serial = next;
      rows = with_row x.rows key serial v;
    }

-- what it stands on
pub record Joins (x : Parts) (key : RingKey) (serial next : ℕ) (v : Held) (ns : List ℕ) : Type 0 where
  pub can : IsTrue (can_lend x.private ns)
  pub none : held_at x.rows key ≡ None
  pub named : key_in v.id ≡ key
  pub pages : numbers_of v.row ≡ ns
  pub sized : length (row_bytes v.row) ≡ 4096 * length v.row
  pub some : 0 < serial
  pub young : serial < next
  pub later : x.next_serial ≤ next
  pub own : (q : RingKey) (h : Row Held) → held_at x.rows q ≡ Some h → h.serial ≢ serial

module _ (x : Parts) (is : IsParts x) (ns : List ℕ) (can : IsTrue (can_lend x.private ns)) where
  cans : IsTrue (list_all (λ n. is_some (page_at x.private n)) ns) × IsTrue (numbers.all_differ ns)
  cans = both (list_all (λ n. is_some (page_at x.private n)) ns) (numbers.all_differ ns) can

  pub lends_differ : Differ ns
  lends_differ = all_differ ns cans.1

  pub lends_alone : (i : ℕ) → i < length ns → Alone (store_of x) (slice_index ns i)
  lends_alone i below = alone_at (store_of x) (slice_index ns i) (can_at x.private ns i cans.0 below)

  -- the bytes of the pages that are lent are theirs in the memory
  lent : List (ℕ × List ℕ)
  lent = row_of x.private ns

module _ (x : Parts) (is : IsParts x) (key : RingKey) (serial next : ℕ) (v : Held) (ns : List ℕ) (j : Joins x key serial next v ns) where
  abbrev q : PagedRing
  q = paged serial v

  back : (P : List ℕ → Type 0) → P ns → P (numbers_of v.row)
  back P p = subst P (sym j.pages) p

  pub join_step : Joined (store_of x) (store_of (joined x key serial next v ns)) key (paged serial v)
  join_step =
      record {
        count = length-without x.private ns;
        none = ap (option_map stood) j.none;
        now = ap (option_map stood) (insert_here x.rows key (held serial v));
        others = λ k other. ap (option_map stood) (insert_other x.rows key k (held serial v) other);
        free = back (λ ps. (i : ℕ) → i < length ps → Alone (store_of x) (slice_index ps i)) (lends_alone x is ns j.can);
        differ = back Differ (lends_differ x is ns j.can);
        page = back (λ ps. (i : ℕ) → i < length ps → page_at (without x.private ns) (slice_index ps i) ≡ None) (λ i below. without_at x.private ns i below);
        home = back (λ ps. (i : ℕ) → i < length ps → home_at (settled key 0 ns x.homes) (slice_index ps i) ≡ Some (home key i)) (λ i below.
            let a = lends_alone x is ns j.can i below in
            let inside = is.store.inside (slice_index ns i) a.bytes a.is in
            settled_at key 0 ns x.homes i (lends_differ x is ns j.can) below (omega (arith, inside, is.homes)) ∙ ap (λ m. Some (home key m)) (omega arith));
        other_page = back (λ ps. (n : ℕ) → Apart ps n → page_at (without x.private ns) n ≡ page_at x.private n) (λ n apart. without_other x.private ns n apart);
        other_home = back (λ ps. (n : ℕ) → Apart ps n → home_at (settled key 0 ns x.homes) n ≡ home_at x.homes n) (λ n apart. settled_other key 0 ns x.homes n apart);
        sized = j.sized ∙ ap (λ n. 4096 * n) (sym (length-map v.row (λ (p : ℕ × List ℕ). p.0)));
      }

  -- a ring that stands then
  pub record Stood (k : RingKey) (h : Row Held) : Type 0 where
    pub either : ((k ≡ key) × (h ≡ held serial v)) ⊎ ((k ≢ key) × (held_at x.rows k ≡ Some h))

  which : (k : RingKey) (h : Row Held) → held_at (with_row x.rows key serial v) k ≡ Some h → ((k ≡ key) × (h ≡ held serial v)) ⊎ ((k ≢ key) × (held_at x.rows k ≡ Some h))
  which k h at =
      ⊎_elim
      (λ same. inl (same, same_Some h (held serial v) (sym at ∙ ap (held_at (with_row x.rows key serial v)) same ∙ insert_here x.rows key (held serial v))))
      (λ other. inr (other, sym (insert_other x.rows key k (held serial v) other) ∙ at))
      (same_key_or_not k key)

  serial_of : (h : Row Held) → h ≡ held serial v → h.serial ≡ serial
  serial_of h same = ap (λ (r : Row Held). r.serial) same

  pub joined_parts : IsParts (joined x key serial next v ns)
  joined_parts =
      record {
        homes = length-settled key 0 ns x.homes ∙ is.homes ∙ sym (length-without x.private ns);
        store = joined_store (store_of x) (store_of (joined x key serial next v ns)) key (paged serial v) is.store join_step;
        named = record {
          rising = sorted-insert key_total key (held serial v) x.rows is.named.rising;
          key = λ k h at. ⊎_elim
              (λ o. ap (λ (r : Row Held). key_in r.value.id) o.1 ∙ j.named ∙ sym o.0)
              (λ o. is.named.key k h o.1)
              (which k h at);
          young = λ k h at. ⊎_elim
              (λ o. subst (λ n. n < next) (sym (serial_of h o.1)) j.young)
              (λ o. let low = is.named.young k h o.1 in let later = j.later in omega arith)
              (which k h at);
          first = let y = j.young in omega arith;
          some = λ k h at. ⊎_elim
              (λ o. subst (λ n. 0 < n) (sym (serial_of h o.1)) j.some)
              (λ o. is.named.some k h o.1)
              (which k h at);
          differ = λ k p g h at_k at_p same. ⊎_elim
              (λ o. ⊎_elim
              (λ u. o.0 ∙ sym u.0)
              (λ u. absurd (j.own p h u.1 (sym same ∙ serial_of g o.1)))
              (which p h at_p))
              (λ o. ⊎_elim
              (λ u. absurd (j.own k g o.1 (same ∙ serial_of h u.1)))
              (λ u. is.named.differ k p g h o.1 u.1 same)
              (which p h at_p))
              (which k g at_k);
        };
      }

  pub joined_bytes : (seen (joined x key serial next v ns)).bytes ≡ laid (numbers_of v.row) (row_bytes v.row) (seen x).bytes
  joined_bytes = joined_memory (store_of x) (store_of (joined x key serial next v ns)) key (paged serial v) is.store join_step

  pub joined_rings : (seen (joined x key serial next v ns)).rings ≡ insert_entry key_cmp (seen x).rings key (paged serial v).ring
  joined_rings = map-insert_entry ring_of x.rows key (held serial v)
