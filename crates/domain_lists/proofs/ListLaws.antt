-- Laws of the lists of several domains: one of them changes, and the others stay.
use Rattle.std.proofs.Common.{◌≡◌, ℕ, ◌==◌, ◌≤◌, Bool, true, false, cond, not, ◌&&◌, ◌||◌, List, [], ◌∷◌, length, unwrap_or, Some, None, Result, Ok, Err, OnErr, refl, sym, ap, ◌∙◌, subst, arith}
use Rattle.std.specs.declared.cmp.Ordering.{Ordering}
use Rattle.std.specs.declared.cmp.Ordering.TheVariants.{Less, Equal, Greater}
use Rattle.std.specs.Ordering.{nat_cmp, match_ordering, is_eq}
use Rattle.std.specs.Map.{lookup, set_value}
use Rattle.std.specs.BTreeMap.{is_at, insert_entry}
use Rattle.std.proofs.lemmas.Bool.Decides.{nat_tests}
use Rattle.argo_base.specs.declared.ring_key.RingId.{RingId}
use Rattle.argo_base.specs.Match.{id_cmp}
use Rattle.argo_base.specs.RingIds.{has_id}
use Rattle.domain_lists.specs.Lists.{RingLists, ids_of, names, is_pair, AreNoLonger}

eq_same : (a b : ℕ) → (a == b) ≡ true → a ≡ b
eq_same a b h = grind (arith, nat_tests)

eq_not : (d dom : ℕ) → (d == dom) ≡ false → is_at (nat_cmp d) dom ≡ false
eq_not d dom h = grind (arith, nat_tests)

at_same : (a b : ℕ) → is_at (nat_cmp a) b ≡ true → a ≡ b
at_same a b h = grind (arith, nat_tests)

at_self : (a : ℕ) → is_at (nat_cmp a) a ≡ true
at_self a = grind (arith, nat_tests)

cmp_equal : (a b : ℕ) → nat_cmp a b ≡ Equal → a ≡ b
cmp_equal a b h = grind (arith, nat_tests)

-- the list of one domain is this one, and the others are as they were
abbrev pub IsWith : RingLists → ℕ → List RingId → RingLists → Type 0
IsWith old dom ids new = (d : ℕ) → ids_of new d ≡ cond (d == dom) ids (ids_of old d)

module _ (dom : ℕ) (ids : List RingId) where
  set_here : (lists : RingLists) (old : List RingId) → lookup (is_at (nat_cmp dom)) lists ≡ Some old → lookup (is_at (nat_cmp dom)) (set_value (is_at (nat_cmp dom)) lists ids) ≡ Some ids
  set_here [] old here = cc
  set_here (e ∷ es) old here = by (is_at (nat_cmp dom) e.0) refl here (set_here es old) where
    by : (b : Bool) → is_at (nat_cmp dom) e.0 ≡ b → cond b (Some e.1) (lookup (is_at (nat_cmp dom)) es) ≡ Some old
        → (lookup (is_at (nat_cmp dom)) es ≡ Some old → lookup (is_at (nat_cmp dom)) (set_value (is_at (nat_cmp dom)) es ids) ≡ Some ids)
        → lookup (is_at (nat_cmp dom)) (cond b ((e.0, ids) ∷ es) (e ∷ set_value (is_at (nat_cmp dom)) es ids)) ≡ Some ids
    by true is here rest = ap (λ (b : Bool). cond b (Some ids) (lookup (is_at (nat_cmp dom)) es)) is
    by false is here rest = ap (λ (b : Bool). cond b (Some e.1) (lookup (is_at (nat_cmp dom)) (set_value (is_at (nat_cmp dom)) es ids))) is ∙ rest here

  set_there : (d : ℕ) → (d == dom) ≡ false → (lists : RingLists) → lookup (is_at (nat_cmp d)) (set_value (is_at (nat_cmp dom)) lists ids) ≡ lookup (is_at (nat_cmp d)) lists
  set_there d apart [] = refl
  set_there d apart (e ∷ es) = by (is_at (nat_cmp dom) e.0) refl (set_there d apart es) where
    by : (b : Bool) → is_at (nat_cmp dom) e.0 ≡ b → lookup (is_at (nat_cmp d)) (set_value (is_at (nat_cmp dom)) es ids) ≡ lookup (is_at (nat_cmp d)) es
        → lookup (is_at (nat_cmp d)) (cond b ((e.0, ids) ∷ es) (e ∷ set_value (is_at (nat_cmp dom)) es ids)) ≡ cond (is_at (nat_cmp d) e.0) (Some e.1) (lookup (is_at (nat_cmp d)) es)
    by true is rest =
        let n : is_at (nat_cmp d) e.0 ≡ false = ap (λ k. is_at (nat_cmp d) k) (sym (at_same dom e.0 is)) ∙ eq_not d dom apart in
        ap (λ (b : Bool). cond b (Some ids) (lookup (is_at (nat_cmp d)) es)) n ∙ ap (λ (b : Bool). cond b (Some e.1) (lookup (is_at (nat_cmp d)) es)) (sym n)
    by false is rest = ap (cond (is_at (nat_cmp d) e.0) (Some e.1)) rest

  put_here : (lists : RingLists) → lookup (is_at (nat_cmp dom)) (insert_entry nat_cmp lists dom ids) ≡ Some ids
  put_here [] = ap (λ (b : Bool). cond b (Some ids) None) (at_self dom)
  put_here (e ∷ es) = by (nat_cmp dom e.0) refl (put_here es) where
    by : (o : Ordering) → nat_cmp dom e.0 ≡ o → lookup (is_at (nat_cmp dom)) (insert_entry nat_cmp es dom ids) ≡ Some ids
        → lookup (is_at (nat_cmp dom)) (match_ordering o ((dom, ids) ∷ e ∷ es) ((e.0, ids) ∷ es) (e ∷ insert_entry nat_cmp es dom ids)) ≡ Some ids
    by Less is rest = ap (λ (b : Bool). cond b (Some ids) (lookup (is_at (nat_cmp dom)) (e ∷ es))) (at_self dom)
    by Equal is rest = ap (λ (o : Ordering). cond (is_eq o) (Some ids) (lookup (is_at (nat_cmp dom)) es)) is
    by Greater is rest = ap (λ (o : Ordering). cond (is_eq o) (Some e.1) (lookup (is_at (nat_cmp dom)) (insert_entry nat_cmp es dom ids))) is ∙ rest

  put_there : (d : ℕ) → (d == dom) ≡ false → (lists : RingLists) → lookup (is_at (nat_cmp d)) (insert_entry nat_cmp lists dom ids) ≡ lookup (is_at (nat_cmp d)) lists
  put_there d apart [] = ap (λ (b : Bool). cond b (Some ids) None) (eq_not d dom apart)
  put_there d apart (e ∷ es) = by (nat_cmp dom e.0) refl (put_there d apart es) where
    by : (o : Ordering) → nat_cmp dom e.0 ≡ o → lookup (is_at (nat_cmp d)) (insert_entry nat_cmp es dom ids) ≡ lookup (is_at (nat_cmp d)) es
        → lookup (is_at (nat_cmp d)) (match_ordering o ((dom, ids) ∷ e ∷ es) ((e.0, ids) ∷ es) (e ∷ insert_entry nat_cmp es dom ids))
        ≡ cond (is_at (nat_cmp d) e.0) (Some e.1) (lookup (is_at (nat_cmp d)) es)
    by Less is rest = ap (λ (b : Bool). cond b (Some ids) (lookup (is_at (nat_cmp d)) (e ∷ es))) (eq_not d dom apart)
    by Equal is rest =
        let n : is_at (nat_cmp d) e.0 ≡ false = ap (λ k. is_at (nat_cmp d) k) (sym (cmp_equal dom e.0 is)) ∙ eq_not d dom apart in
        ap (λ (b : Bool). cond b (Some ids) (lookup (is_at (nat_cmp d)) es)) n ∙ ap (λ (b : Bool). cond b (Some e.1) (lookup (is_at (nat_cmp d)) es)) (sym n)
    by Greater is rest = ap (cond (is_at (nat_cmp d) e.0) (Some e.1)) rest

  pub is_set : (lists : RingLists) (old : List RingId) → lookup (is_at (nat_cmp dom)) lists ≡ Some old → IsWith lists dom ids (set_value (is_at (nat_cmp dom)) lists ids)
  is_set lists old here d = by (d == dom) refl where
    by : (b : Bool) → (d == dom) ≡ b → ids_of (set_value (is_at (nat_cmp dom)) lists ids) d ≡ cond b ids (ids_of lists d)
    by true is = ap (ids_of (set_value (is_at (nat_cmp dom)) lists ids)) (eq_same d dom is) ∙ ap (λ o. unwrap_or o []) (set_here lists old here)
    by false is = ap (λ o. unwrap_or o []) (set_there d is lists)

  pub is_put : (lists : RingLists) → IsWith lists dom ids (insert_entry nat_cmp lists dom ids)
  is_put lists d = by (d == dom) refl where
    by : (b : Bool) → (d == dom) ≡ b → ids_of (insert_entry nat_cmp lists dom ids) d ≡ cond b ids (ids_of lists d)
    by true is = ap (ids_of (insert_entry nat_cmp lists dom ids)) (eq_same d dom is) ∙ ap (λ o. unwrap_or o []) (put_here lists)
    by false is = ap (λ o. unwrap_or o []) (put_there d is lists)

module _ (old new : RingLists) (dom : ℕ) (ids : List RingId) (is_with : IsWith old dom ids new) (id : RingId) where
  pub names_added : ((x : RingId) → has_id ids x ≡ (is_at (id_cmp id) x || has_id (ids_of old dom) x)) → (d : ℕ) (x : RingId) → names new d x ≡ (is_pair dom id d x || names old d x)
  names_added added d x = ap (λ l. has_id l x) (is_with d) ∙ by (d == dom) refl where
    by : (b : Bool) → (d == dom) ≡ b → has_id (cond b ids (ids_of old d)) x ≡ ((b && is_at (id_cmp id) x) || has_id (ids_of old d) x)
    by true is = added x ∙ ap (λ k. is_at (id_cmp id) x || has_id (ids_of old k) x) (sym (eq_same d dom is))
    by false is = refl

  pub names_removed : ((x : RingId) → has_id ids x ≡ (has_id (ids_of old dom) x && not (is_at (id_cmp id) x))) → (d : ℕ) (x : RingId) → names new d x ≡ (names old d x && not (is_pair dom id d x))
  names_removed removed d x = ap (λ l. has_id l x) (is_with d) ∙ by (d == dom) refl where
    and_true : (a : Bool) → a ≡ (a && true)
    and_true true = refl
    and_true false = refl

    by : (b : Bool) → (d == dom) ≡ b → has_id (cond b ids (ids_of old d)) x ≡ (has_id (ids_of old d) x && not (b && is_at (id_cmp id) x))
    by true is = removed x ∙ ap (λ k. has_id (ids_of old k) x && not (is_at (id_cmp id) x)) (sym (eq_same d dom is))
    by false is = and_true (has_id (ids_of old d) x)

-- a list that is not there loses nothing
pub names_absent : (lists : RingLists) (dom : ℕ) (id : RingId) → ids_of lists dom ≡ [] → (d : ℕ) (x : RingId) → names lists d x ≡ (names lists d x && not (is_pair dom id d x))
names_absent lists dom id none d x = by (d == dom) refl where
  and_true : (a : Bool) → a ≡ (a && true)
  and_true true = refl
  and_true false = refl

  by : (b : Bool) → (d == dom) ≡ b → has_id (ids_of lists d) x ≡ (has_id (ids_of lists d) x && not (b && is_at (id_cmp id) x))
  by true is =
      let e : ids_of lists d ≡ [] = ap (λ k. ids_of lists k) (eq_same d dom is) ∙ none in
      ap (λ (l : List RingId). has_id l x) e ∙ ap (λ (l : List RingId). has_id l x && not (is_at (id_cmp id) x)) (sym e)
  by false is = and_true (has_id (ids_of lists d) x)

pub no_longer : (old new : RingLists) (dom : ℕ) (ids : List RingId) → IsWith old dom ids new → length ids ≤ length (ids_of old dom) → AreNoLonger old new
no_longer old new dom ids is_with less d = subst (λ (l : List RingId). length l ≤ length (ids_of old d)) (sym (is_with d)) (by (d == dom) refl) where
  by : (b : Bool) → (d == dom) ≡ b → length (cond b ids (ids_of old d)) ≤ length (ids_of old d)
  by true is = subst (λ k. length ids ≤ length (ids_of old k)) (sym (eq_same d dom is)) less
  by false is = omega arith

pub here_is : (old new : RingLists) (dom : ℕ) (ids : List RingId) → IsWith old dom ids new → ids_of new dom ≡ ids
here_is old new dom ids is_with = is_with dom ∙ ap (λ (b : Bool). cond b ids (ids_of old dom)) self where
  self : (dom == dom) ≡ true
  self = grind (arith, nat_tests)

pub same_lengths : (lists : RingLists) → AreNoLonger lists lists
same_lengths lists d = omega arith

-- what holds in any case holds after an error
pub in_any_case : {T E P : Type 0} (r : Result T E) → P → OnErr r P
in_any_case (Ok x) p = tt
in_any_case (Err e) p = p
