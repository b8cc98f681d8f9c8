-- Laws of ring ids, and of the sets of them.
use Rattle.std.proofs.Common.{◌≡◌, ℕ, Bool, true, false, cond, not, ◌&&◌, ◌||◌, List, [], ◌∷◌, length, refl, sym, ap, ◌∙◌, arith, ◌≤◌}
use Rattle.std.specs.declared.cmp.Ordering.{Ordering}
use Rattle.std.specs.declared.cmp.Ordering.TheVariants.{Less, Equal, Greater}
use Rattle.std.specs.Ordering.{nat_cmp, ordering_then, match_ordering, is_eq}
use Rattle.std.specs.List.{All, AllByRecursion}
use Rattle.std.specs.List.Sorted.{IsStrictlySortedBy}
use Rattle.std.specs.BTreeMap.{is_at}
use Rattle.std.specs.BTreeMap.Range.{IsLtBy}
use Rattle.std.specs.BTreeSet.{insert_key}
use Rattle.std.specs.Set.{remove_key}
use Rattle.std.proofs.lemmas.Bool.Decides.{nat_tests}
use Rattle.std.proofs.lemmas.List.Elements.{All-head, All-tail}
use Rattle.std.proofs.lemmas.Map.Keys.{sorted_head, sorted_tail}
use Rattle.argo_base.specs.declared.ring_key.RingId.{RingId}
use Rattle.argo_base.specs.Match.{id_cmp}
use Rattle.argo_base.specs.RingIds.{has_id}

then_equal : (o p : Ordering) → is_eq (ordering_then o p) ≡ true → (is_eq o ≡ true) × (is_eq p ≡ true)
then_equal Less p h = cc
then_equal Equal p h = (refl, h)
then_equal Greater p h = cc

equal_then : (o p : Ordering) → is_eq o ≡ true → is_eq p ≡ true → is_eq (ordering_then o p) ≡ true
equal_then Less p h g = cc
equal_then Equal p h g = g
equal_then Greater p h g = cc

nat_same : (a b : ℕ) → is_at (nat_cmp a) b ≡ true → a ≡ b
nat_same a b h = grind (arith, nat_tests)

nat_self : (a : ℕ) → is_at (nat_cmp a) a ≡ true
nat_self a = grind (arith, nat_tests)

abbrev id_of : ℕ → ℕ → ℕ → RingId
id_of owner port partner = record { owner = owner; port = port; partner = partner }

-- what compares equal is the same
pub id_same : (a b : RingId) → is_at (id_cmp a) b ≡ true → a ≡ b
id_same a b h =
    let e = then_equal (ordering_then (nat_cmp a.owner b.owner) (nat_cmp a.port b.port)) (nat_cmp a.partner b.partner) h in
    let f = then_equal (nat_cmp a.owner b.owner) (nat_cmp a.port b.port) e.0 in
    ap (λ o. id_of o a.port a.partner) (nat_same a.owner b.owner f.0)
    ∙ ap (λ p. id_of b.owner p a.partner) (nat_same a.port b.port f.1)
    ∙ ap (λ p. id_of b.owner b.port p) (nat_same a.partner b.partner e.1)

pub id_self : (a : RingId) → is_at (id_cmp a) a ≡ true
id_self a =
    equal_then (ordering_then (nat_cmp a.owner a.owner) (nat_cmp a.port a.port)) (nat_cmp a.partner a.partner)
    (equal_then (nat_cmp a.owner a.owner) (nat_cmp a.port a.port) (nat_self a.owner) (nat_self a.port)) (nat_self a.partner)

pub id_turned : (a b : RingId) → is_at (id_cmp a) b ≡ is_at (id_cmp b) a
id_turned a b = by (is_at (id_cmp a) b) (is_at (id_cmp b) a) refl refl where
  by : (t u : Bool) → is_at (id_cmp a) b ≡ t → is_at (id_cmp b) a ≡ u → t ≡ u
  by true true e f = refl
  by false false e f = refl
  by true false e f =
      let same = id_same a b e in
      sym (id_self b) ∙ ap (λ x. is_at (id_cmp b) x) (sym same) ∙ f
  by false true e f =
      let same = id_same b a f in
      sym e ∙ ap (λ x. is_at (id_cmp a) x) same ∙ id_self a

-- ---- sets

-- a set with one more
pub has_added : (ids : List RingId) (id x : RingId) → has_id (insert_key id_cmp ids id) x ≡ (is_at (id_cmp id) x || has_id ids x)
has_added [] id x = ap (λ b. b || false) (id_turned x id)
has_added (y ∷ ys) id x = by (id_cmp id y) refl (has_added ys id x) where
  shuffle : (a b c : Bool) → (a || (b || c)) ≡ (b || (a || c))
  shuffle true true c = refl
  shuffle true false c = refl
  shuffle false b c = refl

  twice : (a c : Bool) → (a || c) ≡ (a || (a || c))
  twice true c = refl
  twice false c = refl

  by : (o : Ordering) → id_cmp id y ≡ o → has_id (insert_key id_cmp ys id) x ≡ (is_at (id_cmp id) x || has_id ys x)
      → has_id (match_ordering o (id ∷ y ∷ ys) (y ∷ ys) (y ∷ insert_key id_cmp ys id)) x ≡ (is_at (id_cmp id) x || (is_at (id_cmp x) y || has_id ys x))
  by Less is rest = ap (λ b. b || (is_at (id_cmp x) y || has_id ys x)) (id_turned x id)
  by Equal is rest =
      let same = id_same id y (ap is_eq is) in
      let e : is_at (id_cmp id) x ≡ is_at (id_cmp x) y = id_turned id x ∙ ap (λ z. is_at (id_cmp x) z) same in
      twice (is_at (id_cmp x) y) (has_id ys x) ∙ ap (λ b. b || (is_at (id_cmp x) y || has_id ys x)) (sym e)
  by Greater is rest = ap (λ b. is_at (id_cmp x) y || b) rest ∙ shuffle (is_at (id_cmp x) y) (is_at (id_cmp id) x) (has_id ys x)

-- none of these is one that is below all of them
below_all : (id : RingId) (ids : List RingId) → AllByRecursion (λ y. id_cmp id y ≡ Less) ids → has_id ids id ≡ false
below_all id [] all = refl
below_all id (y ∷ ys) all = ap (λ o. is_eq o || has_id ys id) all.0 ∙ below_all id ys all.1

-- a set without one of those it had
pub has_removed : (ids : List RingId) (id x : RingId) → IsStrictlySortedBy id_cmp ids → has_id (remove_key (is_at (id_cmp id)) ids) x ≡ (has_id ids x && not (is_at (id_cmp id) x))
has_removed [] id x sorted = refl
has_removed (y ∷ ys) id x sorted = by (is_at (id_cmp id) y) (is_at (id_cmp id) x) refl refl (has_removed ys id x (sorted_tail id_cmp y ys sorted)) where
  and_true : (a : Bool) → a ≡ (a && true)
  and_true true = refl
  and_true false = refl

  and_false : (a : Bool) → false ≡ (a && false)
  and_false true = refl
  and_false false = refl

  apart : is_at (id_cmp id) y ≡ true → is_at (id_cmp id) x ≡ false → is_at (id_cmp x) y ≡ false
  apart is other = ap (λ z. is_at (id_cmp x) z) (sym (id_same id y is)) ∙ id_turned x id ∙ other

  here : is_at (id_cmp id) y ≡ false → is_at (id_cmp id) x ≡ true → is_at (id_cmp x) y ≡ false
  here is same = ap (λ z. is_at (id_cmp z) y) (sym (id_same id x same)) ∙ is

  by : (t u : Bool) → is_at (id_cmp id) y ≡ t → is_at (id_cmp id) x ≡ u → has_id (remove_key (is_at (id_cmp id)) ys) x ≡ (has_id ys x && not (is_at (id_cmp id) x))
      → has_id (cond t ys (y ∷ remove_key (is_at (id_cmp id)) ys)) x ≡ ((is_at (id_cmp x) y || has_id ys x) && not u)
  by true true is same rest =
      let e = id_same id x same in
      let f = id_same id y is in
      ap (λ z. has_id ys z) (sym e ∙ f) ∙ below_all y ys (sorted_head id_cmp y ys sorted) ∙ and_false (is_at (id_cmp x) y || has_id ys x)
  by true false is other rest = and_true (has_id ys x) ∙ ap (λ b. (b || has_id ys x) && true) (sym (apart is other))
  by false true is same rest =
      ap (λ b. b || has_id (remove_key (is_at (id_cmp id)) ys) x) (here is same) ∙ rest ∙ ap (λ b. has_id ys x && not b) same
      ∙ ap (λ b. (b || has_id ys x) && false) (sym (here is same))
  by false false is other rest =
      ap (λ b. is_at (id_cmp x) y || b) (rest ∙ ap (λ b. has_id ys x && not b) other ∙ sym (and_true (has_id ys x))) ∙ and_true (is_at (id_cmp x) y || has_id ys x)

pub length_removed : (test : RingId → Bool) (ids : List RingId) → length (remove_key test ids) ≤ length ids
length_removed test [] = omega arith
length_removed test (y ∷ ys) = by (test y) (length_removed test ys) where
  by : (b : Bool) → length (remove_key test ys) ≤ length ys → length (cond b ys (y ∷ remove_key test ys)) ≤ length (y ∷ ys)
  by true rest = omega arith
  by false rest = omega arith

-- a set without its least
pub has_drained : (ids : List RingId) (id x : RingId) → has_id ids id ≡ false → has_id ids x ≡ (has_id (id ∷ ids) x && not (is_at (id_cmp id) x))
has_drained ids id x none = by (is_at (id_cmp id) x) refl where
  and_true : (a : Bool) → a ≡ (a && true)
  and_true true = refl
  and_true false = refl

  and_false : (a : Bool) → false ≡ (a && false)
  and_false true = refl
  and_false false = refl

  by : (u : Bool) → is_at (id_cmp id) x ≡ u → has_id ids x ≡ ((is_at (id_cmp x) id || has_id ids x) && not u)
  by true same = ap (λ z. has_id ids z) (sym (id_same id x same)) ∙ none ∙ and_false (is_at (id_cmp x) id || has_id ids x)
  by false other = and_true (has_id ids x) ∙ ap (λ b. (b || has_id ids x) && true) (sym (id_turned x id ∙ other))

pub has_first : (ids : List RingId) (id : RingId) → has_id (id ∷ ids) id ≡ true
has_first ids id = ap (λ b. b || has_id ids id) (id_self id)

-- what is below all others is none of them
pub least_apart : (ids : List RingId) (id : RingId) → All (IsLtBy id_cmp id) ids → has_id ids id ≡ false
least_apart [] id all = refl
least_apart (y ∷ ys) id all =
    less (id_cmp id y) (All-head (IsLtBy id_cmp id) y ys all) (has_id ys id) ∙ least_apart ys id (All-tail (IsLtBy id_cmp id) y ys all) where
      less : (o : Ordering) → o ≡ Less → (b : Bool) → (is_eq o || b) ≡ b
      less o h b = ap (λ o. is_eq o || b) h
