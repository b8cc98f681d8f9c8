-- Laws of the next ring to be swept.
use Rattle.std.proofs.Common.{◌≡◌, ℕ, zero, suc, ◌<◌, ◌≤◌, Bool, true, false, cond, nat_lt, List, [], ◌∷◌, filter, Option, Some, None, slice_get, refl, sym, ap, ◌∙◌, subst, arith}
use Rattle.std.proofs.lemmas.Bool.Decides.{nat_tests}
use Rattle.std.proofs.lemmas.Option.{same_Some, none-some}
use Rattle.std.proofs.lemmas.Map.Keys.{IsDistinct-from_sorted}
use Rattle.std.proofs.lemmas.Map.Entries.{lookup_from_place}
use Rattle.std.proofs.lemmas.Cmp.{eq_by_cmp_equiv}
use Rattle.std.specs.List.{best_of}
use Rattle.std.specs.Map.{lookup, keys_of}
use Rattle.std.specs.BTreeMap.{is_at}
use Rattle.argo_base.specs.declared.ring_key.RingKey.{RingKey}
use Rattle.argo_base.specs.Match.{key_cmp}
use Rattle.argo_model.specs.Rules.State.{Ring}
use Rattle.argo_model.specs.Rules.Sweep.{least_serial, next_ring}
use Rattle.ring_core.specs.Held.{Held, paged}
use Rattle.ring_table.specs.declared.row.Row.{Row}
use Rattle.ring_table.specs.Rows.{held, held_of, held_at}
use Rattle.ring_table.specs.Serials.{NoneAbove, IsNext}
use Rattle.ring_table.proofs.BucketLaws.{key_total}
use Rattle.paged_live.specs.Parts.{Parts, ring_of, rings_of, IsParts}
use Rattle.paged_live.proofs.PartsLaws.{Found}
use Rattle.paged_live.proofs.PutLaws.{shown_at, rings_rising, ring_at}

abbrev Entry : Type 0
Entry = RingKey × Ring

module _ {A : Type 0} where
  -- an element stands somewhere in a list
  abbrev Stands : List A → A → Type 0
  Stands xs x = (i : ℕ) × (slice_get xs i ≡ Some x)

  later : (y x : A) (xs : List A) → Stands xs x → Stands (y ∷ xs) x
  later y x xs h = (suc h.0, h.1)

  -- what stands among those that pass a test stands among all, and passes it
  kept_stands : (test : A → Bool) (xs : List A) (x : A) (i : ℕ) → slice_get (filter test xs) i ≡ Some x → Stands xs x × (test x ≡ true)
  kept_stands test [] x i e = cc
  kept_stands test (y ∷ ys) x i e = by (test y) refl i e (kept_stands test ys x) where
    by : (t : Bool) → test y ≡ t → (i : ℕ) → slice_get (cond t (y ∷ filter test ys) (filter test ys)) i ≡ Some x
        → ((j : ℕ) → slice_get (filter test ys) j ≡ Some x → Stands ys x × (test x ≡ true)) → Stands (y ∷ ys) x × (test x ≡ true)
    by true passes zero e rest = ((zero, e), ap test (sym (same_Some y x e)) ∙ passes)
    by true passes (suc i) e rest = let h = rest i e in (later y x ys h.0, h.1)
    by false passes i e rest = let h = rest i e in (later y x ys h.0, h.1)

  -- and the other way round
  stands_kept : (test : A → Bool) (xs : List A) (x : A) (i : ℕ) → slice_get xs i ≡ Some x → test x ≡ true → Stands (filter test xs) x
  stands_kept test [] x i e passes = cc
  stands_kept test (y ∷ ys) x zero e passes = let h : test y ≡ true = ap test (same_Some y x e) ∙ passes in
      subst (λ t. Stands (cond t (y ∷ filter test ys) (filter test ys)) x) (sym h) (zero, e)
  stands_kept test (y ∷ ys) x (suc i) e passes = by (test y) (stands_kept test ys x i e passes) where
    by : (t : Bool) → Stands (filter test ys) x → Stands (cond t (y ∷ filter test ys) (filter test ys)) x
    by true h = later y x (filter test ys) h
    by false h = h

abbrev is_less : Entry → Entry → Bool
is_less a b = nat_lt a.1.serial b.1.serial

-- the best of some stands among them, and its serial is the least
record IsLeast (b : Entry) (xs : List Entry) (e : Entry) : Type 0 where
  pub stands : Stands (b ∷ xs) e
  pub first : e.1.serial ≤ b.1.serial
  pub least : (i : ℕ) (x : Entry) → slice_get xs i ≡ Some x → e.1.serial ≤ x.1.serial

best_is_least : (b : Entry) (xs : List Entry) → IsLeast b xs (best_of is_less b xs)
best_is_least b [] = record { stands = (zero, refl); first = omega arith; least = λ i x e. cc }
best_is_least b (x ∷ xs) = by (is_less x b) refl (best_is_least x xs) (best_is_least b xs) where
  past : (e : Entry) (i : ℕ) → slice_get (b ∷ xs) i ≡ Some e → Stands (b ∷ x ∷ xs) e
  past e zero h = (zero, h)
  past e (suc i) h = (suc (suc i), h)

  all : (e : Entry) → e.1.serial ≤ x.1.serial → ((i : ℕ) (y : Entry) → slice_get xs i ≡ Some y → e.1.serial ≤ y.1.serial)
      → (i : ℕ) (y : Entry) → slice_get (x ∷ xs) i ≡ Some y → e.1.serial ≤ y.1.serial
  all e here rest zero y h = subst (λ (z : Entry). e.1.serial ≤ z.1.serial) (same_Some x y h) here
  all e here rest (suc i) y h = rest i y h

  by : (t : Bool) → is_less x b ≡ t → IsLeast x xs (best_of is_less x xs) → IsLeast b xs (best_of is_less b xs) → IsLeast b (x ∷ xs) (best_of is_less (cond t x b) xs)
  by true less on off =
      let first = on.first in
      let before : x.1.serial < b.1.serial = grind (arith, nat_tests) in
      record { stands = later b (best_of is_less x xs) (x ∷ xs) on.stands; first = omega arith; least = all (best_of is_less x xs) on.first on.least }
  by false less on off =
      let first = off.first in
      let before : b.1.serial ≤ x.1.serial = grind (arith, nat_tests) in
      record {
        stands = past (best_of is_less b xs) off.stands.0 off.stands.1;
        first = first;
        least = all (best_of is_less b xs) (omega arith) off.least;
      }

abbrev above : ℕ → Entry → Bool
above after e = nat_lt after e.1.serial

-- the next ring: it stands among them, its serial is above, and no serial above is less
record IsNextRing (after : ℕ) (rings : List Entry) (e : Entry) : Type 0 where
  pub stands : Stands rings e
  pub above : nat_lt after e.1.serial ≡ true
  pub least : (i : ℕ) (x : Entry) → slice_get rings i ≡ Some x → nat_lt after x.1.serial ≡ true → e.1.serial ≤ x.1.serial

next_ring_is : (after : ℕ) (rings : List Entry) (e : Entry) → next_ring after rings ≡ Some e → IsNextRing after rings e
next_ring_is after rings e is = by (filter (above after) rings) refl is where
  by : (kept : List Entry) → filter (above after) rings ≡ kept → least_serial kept ≡ Some e → IsNextRing after rings e
  by [] same is = cc
  by (k ∷ ks) same is =
      let b = best_is_least k ks in
      let here : best_of is_less k ks ≡ e = same_Some (best_of is_less k ks) e is in
      let at = subst (λ (y : Entry). Stands (k ∷ ks) y) here b.stands in
      let in_all = kept_stands (above after) rings e at.0 (ap (λ xs. slice_get xs at.0) same ∙ at.1) in
      record {
        stands = in_all.0;
        above = in_all.1;
        least = λ i x found passes.
            let kept = stands_kept (above after) rings x i found passes in
            subst (λ (y : Entry). y.1.serial ≤ x.1.serial) here (among b kept.0 x (ap (λ xs. slice_get xs kept.0) (sym same) ∙ kept.1));
      } where
        among : IsLeast k ks (best_of is_less k ks) → (j : ℕ) (x : Entry) → slice_get (k ∷ ks) j ≡ Some x → (best_of is_less k ks).1.serial ≤ x.1.serial
        among b zero x h = subst (λ (y : Entry). (best_of is_less k ks).1.serial ≤ y.1.serial) (same_Some k x h) b.first
        among b (suc j) x h = b.least j x h

-- where there is none, no serial is above
none_next : (after : ℕ) (rings : List Entry) → next_ring after rings ≡ None → (i : ℕ) (x : Entry) → slice_get rings i ≡ Some x → nat_lt after x.1.serial ≡ true → ⊥
none_next after rings none i x found passes = by (filter (above after) rings) none (stands_kept (above after) rings x i found passes) where
  by : (kept : List Entry) → least_serial kept ≡ None → Stands kept x → ⊥
  by [] is h = none-some x h.1
  by (k ∷ ks) is h = none-some (best_of is_less k ks) (sym is)

-- ---- in a domain

found_at : (x : Parts) → IsParts x → (i : ℕ) (e : Entry) → slice_get (rings_of x.rows) i ≡ Some e → lookup (is_at (key_cmp e.0)) (rings_of x.rows) ≡ Some e.1
found_at x is i e at =
    lookup_from_place (eq_by_cmp_equiv key_total) (rings_of x.rows) i e.0 e.1 (IsDistinct-from_sorted key_cmp (keys_of (rings_of x.rows)) (rings_rising x is)) at

above_is : (a b : ℕ) → a < b → nat_lt a b ≡ true
above_is a b less = grind (arith, nat_tests)

is_above : (a b : ℕ) → nat_lt a b ≡ true → a < b
is_above a b less = grind (arith, nat_tests)

pub next_none : (x : Parts) → IsParts x → (after : ℕ) → NoneAbove x.rows after → next_ring after (rings_of x.rows) ≡ None
next_none x is after none = by (next_ring after (rings_of x.rows)) refl where
  by : (o : Option Entry) → next_ring after (rings_of x.rows) ≡ o → o ≡ None
  by None next = refl
  by (Some e) next =
      let n = next_ring_is after (rings_of x.rows) e next in
      let s = shown_at x e.0 e.1 (found_at x is n.stands.0 e n.stands.1) in
      let high = is_above after e.1.serial n.above in
      let low = none e.0 s.row s.is in
      let same = ap (λ (r : Ring). r.serial) s.same in
      absurd (omega (arith, high, low, same))

pub next_is : (x : Parts) → IsParts x → (after : ℕ) (row : Row Held) → IsNext x.rows after row → next_ring after (rings_of x.rows) ≡ Some (row.key, ring_of (held_of row))
next_is x is after row next = by (next_ring after (rings_of x.rows)) refl where
  place : Stands (rings_of x.rows) (row.key, ring_of (held_of row))
  place = ring_at x row.key (held_of row) next.stands

  by : (o : Option Entry) → next_ring after (rings_of x.rows) ≡ o → o ≡ Some (row.key, ring_of (held_of row))
  by None none = absurd (none_next after (rings_of x.rows) none place.0 (row.key, ring_of (held_of row)) place.1 (above_is after row.serial next.above))
  by (Some e) found =
      let n = next_ring_is after (rings_of x.rows) e found in
      let s = shown_at x e.0 e.1 (found_at x is n.stands.0 e n.stands.1) in
      let serial : s.row.serial ≡ e.1.serial = ap (λ (r : Ring). r.serial) s.same in
      let high = is_above after e.1.serial n.above in
      let low = n.least place.0 (row.key, ring_of (held_of row)) place.1 (above_is after row.serial next.above) in
      let up = next.least e.0 s.row s.is (omega (arith, high, serial)) in
      let same : s.row.serial ≡ (held_of row).serial = omega (arith, low, up, serial) in
      let key : e.0 ≡ row.key = is.named.differ e.0 row.key s.row (held_of row) s.is next.stands same in
      let value : s.row ≡ held_of row = same_Some s.row (held_of row) (sym s.is ∙ ap (held_at x.rows) key ∙ next.stands) in
      ap (λ r. Some (e.0, r)) (sym s.same) ∙ ap (λ h. Some (e.0, ring_of h)) value ∙ ap (λ k. Some (k, ring_of (held_of row))) key

pub next_met : (x : Parts) → IsParts x → (after : ℕ) (row : Row Held) → IsNext x.rows after row → (a : Held) (f : Found x.rows row.key a)
    → next_ring after (rings_of x.rows) ≡ Some (row.key, (paged f.serial a).ring)
next_met x is after row next a f =
    next_is x is after row next
    ∙ ap (λ h. Some (row.key, ring_of h)) (same_Some (held_of row) (held f.serial a) (sym next.stands ∙ f.is))
