-- Laws of the next ring among rings in the order of their keys: it is the one that its key finds.
use Rattle.std.proofs.Common.{◌≡◌, ℕ, zero, suc, Bool, true, false, cond, nat_lt, List, [], ◌∷◌, filter, Option, Some, None, option_map, slice_get, refl, sym, ap, ◌∙◌}
use Rattle.std.specs.List.{best_of}
use Rattle.std.specs.List.Sorted.{IsStrictlySortedBy}
use Rattle.std.specs.Cmp.{IsTotalOrder}
use Rattle.std.specs.Map.{lookup, keys_of}
use Rattle.std.specs.BTreeMap.{is_at}
use Rattle.std.proofs.lemmas.Cmp.{nat_cmp_total, on_total, then_total, eq_by_cmp_equiv}
use Rattle.std.proofs.lemmas.Map.Keys.{IsDistinct-from_sorted}
use Rattle.std.proofs.lemmas.Map.Entries.{lookup_from_place}
use Rattle.argo_base.specs.declared.ring_key.RingKey.{RingKey}
use Rattle.argo_base.specs.Match.{key_cmp}
use Rattle.argo_model.specs.Rules.State.{Ring}
use Rattle.argo_model.specs.Rules.Sweep.{least_serial, next_ring}

pub key_cmp_total : IsTotalOrder key_cmp
key_cmp_total = then_total (on_total (λ (k : RingKey). k.port) nat_cmp_total) (on_total (λ (k : RingKey). k.partner) nat_cmp_total)

module _ {A : Type 0} where
  -- an element stands somewhere in a list
  abbrev Stands : List A → A → Type 0
  Stands xs x = (i : ℕ) × (slice_get xs i ≡ Some x)

  later : (y x : A) (xs : List A) → Stands xs x → Stands (y ∷ xs) x
  later y x xs h = (suc h.0, h.1)

  past : (y z x : A) (xs : List A) (i : ℕ) → slice_get (y ∷ xs) i ≡ Some x → Stands (y ∷ z ∷ xs) x
  past y z x xs zero e = (zero, e)
  past y z x xs (suc i) e = (suc (suc i), e)

  -- the best of some stands among them
  best_stands : (beats : A → A → Bool) (b : A) (xs : List A) → Stands (b ∷ xs) (best_of beats b xs)
  best_stands beats b [] = (zero, refl)
  best_stands beats b (x ∷ xs) = by (beats x b) (best_stands beats x xs) (best_stands beats b xs) where
    by : (t : Bool) → Stands (x ∷ xs) (best_of beats x xs) → Stands (b ∷ xs) (best_of beats b xs) → Stands (b ∷ x ∷ xs) (best_of beats (cond t x b) xs)
    by true on off = later b (best_of beats x xs) (x ∷ xs) on
    by false on off = past b x (best_of beats b xs) xs off.0 off.1

  -- what stands among those that pass a test stands among all
  kept_stands : (test : A → Bool) (xs : List A) (x : A) (i : ℕ) → slice_get (filter test xs) i ≡ Some x → Stands xs x
  kept_stands test [] x i e = cc
  kept_stands test (y ∷ ys) x i e = by (test y) i e (kept_stands test ys x) where
    by : (t : Bool) (i : ℕ) → slice_get (cond t (y ∷ filter test ys) (filter test ys)) i ≡ Some x
        → ((j : ℕ) → slice_get (filter test ys) j ≡ Some x → Stands ys x) → Stands (y ∷ ys) x
    by true zero e rest = (zero, e)
    by true (suc i) e rest = later y x ys (rest i e)
    by false i e rest = later y x ys (rest i e)

least_stands : (rings : List (RingKey × Ring)) (e : RingKey × Ring) → least_serial rings ≡ Some e → Stands rings e
least_stands [] e is = cc
least_stands (r ∷ rs) e is =
    let h = best_stands (λ (a b : RingKey × Ring). nat_lt a.1.serial b.1.serial) r rs in
    (h.0, h.1 ∙ is)

-- the next ring is the one that its key finds
pub next_found : (after : ℕ) (rings : List (RingKey × Ring)) (e : RingKey × Ring) → IsStrictlySortedBy key_cmp (keys_of rings)
    → next_ring after rings ≡ Some e → lookup (is_at (key_cmp e.0)) rings ≡ Some e.1
next_found after rings e sorted next =
    let kept = least_stands (filter (λ (e : RingKey × Ring). nat_lt after e.1.serial) rings) e next in
    let place = kept_stands (λ (e : RingKey × Ring). nat_lt after e.1.serial) rings e kept.0 kept.1 in
    lookup_from_place (eq_by_cmp_equiv key_cmp_total) rings place.0 e.0 e.1 (IsDistinct-from_sorted key_cmp (keys_of rings) sorted) place.1

abbrev pub key_next : Option (RingKey × Ring) → Option RingKey
key_next o = option_map (λ (e : RingKey × Ring). e.0) o

-- so what its key finds is the next ring
same_as_found : (rings : List (RingKey × Ring)) (key : RingKey) (o : Option (RingKey × Ring)) → key_next o ≡ Some key
    → ((e : RingKey × Ring) → o ≡ Some e → lookup (is_at (key_cmp e.0)) rings ≡ Some e.1) → option_map (λ (r : Ring). (key, r)) (lookup (is_at (key_cmp key)) rings) ≡ o
same_as_found rings key None at found = cc
same_as_found rings key (Some e) at found =
    let same : e.0 ≡ key = cc in
    ap (λ k. option_map (λ (r : Ring). (k, r)) (lookup (is_at (key_cmp k)) rings)) (sym same) ∙ ap (option_map (λ (r : Ring). (e.0, r))) (found e refl)

pub next_at : (after : ℕ) (rings : List (RingKey × Ring)) (key : RingKey) (o : Option Ring) → IsStrictlySortedBy key_cmp (keys_of rings)
    → key_next (next_ring after rings) ≡ Some key → lookup (is_at (key_cmp key)) rings ≡ o → next_ring after rings ≡ option_map (λ (r : Ring). (key, r)) o
next_at after rings key o sorted at found =
    sym (same_as_found rings key (next_ring after rings) at (λ e is. next_found after rings e sorted is)) ∙ ap (option_map (λ (r : Ring). (key, r))) found

-- which is there
pub next_is_there : (after : ℕ) (rings : List (RingKey × Ring)) (key : RingKey) → IsStrictlySortedBy key_cmp (keys_of rings)
    → key_next (next_ring after rings) ≡ Some key → lookup (is_at (key_cmp key)) rings ≡ None → ⊥
next_is_there after rings key sorted at none =
    let no : key_next (next_ring after rings) ≡ None = ap key_next (next_at after rings key None sorted at none) in
    cc
