-- Laws of going through the first rows of all buckets for the least key.
use Rattle.std.proofs.Common.{◌≡◌, ℕ, ◌+◌, Bool, true, false, cond, List, [], ◌∷◌, map, refl, sym, ap, ◌∙◌, true≢false}
use Rattle.std.specs.Prelude.{Option, Some, None, slice_get}
use Rattle.std.specs.Option.{is_some, option_map, option_or, IfSome}
use Rattle.std.specs.Ordering.{is_eq, is_gt, ordering_reverse}
use Rattle.std.specs.declared.cmp.Ordering.{Ordering}
use Rattle.std.specs.declared.cmp.Ordering.TheVariants.{Less, Equal, Greater}
use Rattle.std.specs.Cmp.{tied_itself, eq_by_cmp_equiv}
use Rattle.std.specs.List.{AllByRecursion}
use Rattle.std.specs.List.Sorted.{IsStrictlySortedBy}
use Rattle.std.specs.Map.{keys_of}
use Rattle.std.specs.BTreeMap.{is_at}
use Rattle.std.proofs.lemmas.Cmp.{upto}
use Rattle.std.proofs.lemmas.Map.{lookup-none}
use Rattle.std.proofs.lemmas.Map.Entries.{none_below_head}
use Rattle.std.proofs.lemmas.Map.Made.{nil_from_lookup}
use Rattle.argo_base.specs.declared.ring_key.RingKey.{RingKey}
use Rattle.argo_base.specs.Match.{key_cmp}
use Rattle.ring_table.specs.declared.row.Row.{Row}
use Rattle.ring_table.specs.Rows.{Held, held_of, entry_of}
use Rattle.ring_table.specs.Buckets.{gathered, rows_in, IsBucket, AreBuckets}
use Rattle.ring_table.specs.Scans.{lower, lower_first, first_of}
use Rattle.ring_table.proofs.BucketLaws.{Bucket, find, key_total, key_exact, key_is, key_itself, find-rows, find-put_all, sorted-rows}
use Rattle.ring_table.proofs.ScanLaws.{same_some, AllRows, each_row}

-- ---- the head of a list by rising key

module _ {X : Type 0} where
  at_head : (e : RingKey × X) (es : List (RingKey × X)) → find (e ∷ es) e.0 ≡ Some e.1
  at_head e es = ap (λ c. cond c (Some e.1) (find es e.0)) (key_itself e.0)

  below_at : (k q : RingKey) (x : RingKey × X) (es : List (RingKey × X)) (v : X) (c : Bool) → is_at (key_cmp q) x.0 ≡ c → cond c (Some x.1) (find es q) ≡ Some v → key_cmp k x.0 ≡ Less
      → (find es q ≡ Some v → is_gt (key_cmp k q) ≡ false) → is_gt (key_cmp k q) ≡ false
  below_at k q x es v true e h less rest = ap (λ y. is_gt (key_cmp k y)) (key_is q x.0 e) ∙ ap is_gt less
  below_at k q x es v false e h less rest = rest h

  -- a key that is below those of a list is not above one that is found in it
  below_found : (k q : RingKey) (es : List (RingKey × X)) (v : X) → AllByRecursion (λ y. key_cmp k y ≡ Less) (keys_of es) → find es q ≡ Some v → is_gt (key_cmp k q) ≡ false
  below_found k q [] v less h = absurd (true≢false (sym (ap is_some h)))
  below_found k q (x ∷ es) v less h = below_at k q x es v (is_at (key_cmp q) x.0) refl h less.0 (below_found k q es v less.1)

  least_at : (e : RingKey × X) (es : List (RingKey × X)) (q : RingKey) (v : X) (c : Bool) → is_at (key_cmp q) e.0 ≡ c → cond c (Some e.1) (find es q) ≡ Some v
      → (find es q ≡ Some v → is_gt (key_cmp e.0 q) ≡ false) → is_gt (key_cmp e.0 q) ≡ false
  least_at e es q v true h f rest = ap (λ y. is_gt (key_cmp e.0 y)) (key_is q e.0 h) ∙ ap is_gt (tied_itself key_total e.0)
  least_at e es q v false h f rest = rest f

  -- the first key is not above one that is found
  least : (e : RingKey × X) (es : List (RingKey × X)) → IsStrictlySortedBy key_cmp (keys_of (e ∷ es)) → (q : RingKey) (v : X) → find (e ∷ es) q ≡ Some v → is_gt (key_cmp e.0 q) ≡ false
  unfolding IsStrictlySortedBy
  least e es sorted q v h = least_at e es q v (is_at (key_cmp q) e.0) refl h (below_found e.0 q es v sorted.0)

  head_at : (k : RingKey) (v : X) (e : RingKey × X) (es : List (RingKey × X)) (r : Ordering) → key_cmp k e.0 ≡ r → IsStrictlySortedBy key_cmp (keys_of (e ∷ es)) → find (e ∷ es) k ≡ Some v
      → is_gt (key_cmp k e.0) ≡ false → Some (k, v) ≡ Some e
  head_at k v e es Less p sorted h g = absurd (true≢false (sym (ap is_some h) ∙ ap is_some (lookup-none (is_at (key_cmp k)) (e ∷ es) (none_below_head key_total k e es sorted p))))
  head_at k v e es Equal p sorted h g =
      let key = key_exact k e.0 p in
      let value = same_some e.1 v (sym (ap (λ c. cond c (Some e.1) (find es k)) (ap is_eq p)) ∙ h) in
      λ i. Some (key i, sym value i)
  head_at k v e es Greater p sorted h g = absurd (true≢false (sym (ap is_gt p) ∙ g))

  -- the key that is found, and not above another, is the first
  head_is : (k : RingKey) (v : X) (es : List (RingKey × X)) → IsStrictlySortedBy key_cmp (keys_of es) → find es k ≡ Some v
      → ((q : RingKey) (x : X) → find es q ≡ Some x → is_gt (key_cmp k q) ≡ false) → Some (k, v) ≡ slice_get es 0
  head_is k v [] sorted h low = absurd (true≢false (sym (ap is_some h)))
  head_is k v (e ∷ es) sorted h low = head_at k v e es (key_cmp k e.0) refl sorted h (low e.0 e.1 (at_head e es))

gt_by : (a b : RingKey) (r : Ordering) → key_cmp a b ≡ r → is_gt (key_cmp a b) ≡ true → is_gt (key_cmp b a) ≡ false
gt_by a b Less p g = absurd (true≢false (sym g ∙ ap is_gt p))
gt_by a b Equal p g = absurd (true≢false (sym g ∙ ap is_gt p))
gt_by a b Greater p g = ap is_gt (key_total.antisymm b a ∙ ap ordering_reverse p)

gt_turned : (a b : RingKey) → is_gt (key_cmp a b) ≡ true → is_gt (key_cmp b a) ≡ false
gt_turned a b h = gt_by a b (key_cmp a b) refl h

module _ {T : Type 0} where
  -- the best is not above the key
  abbrev NotAbove : Option (Row T) → RingKey → Type 0
  NotAbove None k = ⊥
  NotAbove (Some b) k = is_gt (key_cmp b.key k) ≡ false

  self_at : (b row : Row T) (c : Bool) → is_gt (key_cmp b.key row.key) ≡ c → NotAbove (cond c (Some row) (Some b)) row.key
  self_at b row true e = ap is_gt (tied_itself key_total row.key)
  self_at b row false e = e

  low_self : (best : Option (Row T)) (row : Row T) → NotAbove (lower best row) row.key
  low_self None row = ap is_gt (tied_itself key_total row.key)
  low_self (Some b) row = self_at b row (is_gt (key_cmp b.key row.key)) refl

  keep_at : (b row : Row T) (k : RingKey) (c : Bool) → is_gt (key_cmp b.key row.key) ≡ c → NotAbove (Some b) k → NotAbove (cond c (Some row) (Some b)) k
  keep_at b row k true e h = upto key_total row.key b.key k (gt_turned b.key row.key e) h
  keep_at b row k false e h = h

  low_keep : (best : Option (Row T)) (row : Row T) (k : RingKey) → NotAbove best k → NotAbove (lower best row) k
  low_keep None row k h = absurd h
  low_keep (Some b) row k h = keep_at b row k (is_gt (key_cmp b.key row.key)) refl h

  -- what is not above a key is not above one that is not below it
  further : (best : Option (Row T)) (k q : RingKey) → NotAbove best k → is_gt (key_cmp k q) ≡ false → NotAbove best q
  further None k q h g = absurd h
  further (Some b) k q h g = upto key_total b.key k q h g

  first_keep : (best : Option (Row T)) (es : List (RingKey × Row T)) (k : RingKey) → NotAbove best k → NotAbove (lower_first best es) k
  first_keep best [] k h = h
  first_keep best (e ∷ es) k h = low_keep best e.1 k h

  first_bound : (best : Option (Row T)) (es : List (RingKey × Row T)) → IsStrictlySortedBy key_cmp (keys_of es) → ((q : RingKey) (row : Row T) → find es q ≡ Some row → row.key ≡ q)
      → (q : RingKey) (r : Row T) → find es q ≡ Some r → NotAbove (lower_first best es) q
  first_bound best [] sorted own q r h = absurd (true≢false (sym (ap is_some h)))
  first_bound best (e ∷ es) sorted own q r h =
      further (lower best e.1) e.1.key q (low_self best e.1)
      (ap (λ k. is_gt (key_cmp k q)) (own e.0 e.1 (at_head e es)) ∙ least e es sorted q r h)

  rest_keep : (bs : List (Bucket T)) (best : Option (Row T)) (k : RingKey) → NotAbove best k → NotAbove (first_of best bs) k
  rest_keep [] best k h = h
  rest_keep (b ∷ bs) best k h = rest_keep bs (lower_first best b.entries) k (first_keep best b.entries k h)

  bound_or : (i : ℕ) (b : Bucket T) (bs : List (Bucket T)) → IsBucket i b → (best : Option (Row T)) (q : RingKey) (r : Row T) (x y : Option (Row T)) → find b.entries q ≡ x → option_or x y ≡ Some r
      → (y ≡ Some r → NotAbove (first_of (lower_first best b.entries) bs) q) → NotAbove (first_of (lower_first best b.entries) bs) q
  bound_or i b bs is best q r None y e h rest = rest h
  bound_or i b bs is best q r (Some x) y e h rest =
      rest_keep bs (lower_first best b.entries) q (first_bound best b.entries is.ordered (λ k row f. (is.own k row f).1) q x e)

  bound_all : (i : ℕ) (bs : List (Bucket T)) → AreBuckets i bs → (best : Option (Row T)) (q : RingKey) (r : Row T) → find (gathered bs) q ≡ Some r → NotAbove (first_of best bs) q
  bound_all i [] are best q r h = absurd (true≢false (sym (ap is_some h)))
  bound_all i (b ∷ bs) are best q r h =
      bound_or i b bs are.0 best q r (find b.entries q) (find (gathered bs) q) refl (sym (find-put_all b.entries (gathered bs) q) ∙ h)
      (bound_all (i + 1) bs are.1 (lower_first best b.entries) q r)

  module _ (Q : Row T → Type 0) where
    fine_at : (b row : Row T) (c : Bool) → Q b → Q row → IfSome (cond c (Some row) (Some b)) Q
    fine_at b row true h k = k
    fine_at b row false h k = h

    fine_lower : (best : Option (Row T)) (row : Row T) → IfSome best Q → Q row → IfSome (lower best row) Q
    fine_lower None row h k = k
    fine_lower (Some b) row h k = fine_at b row (is_gt (key_cmp b.key row.key)) h k

    fine_first : (best : Option (Row T)) (es : List (RingKey × Row T)) → IfSome best Q → AllByRecursion Q (map (λ e. e.1) es) → IfSome (lower_first best es) Q
    fine_first best [] h all = h
    fine_first best (e ∷ es) h all = fine_lower best e.1 h all.0

    fine_all : (bs : List (Bucket T)) (best : Option (Row T)) → IfSome best Q → AllRows 0 Q bs → IfSome (first_of best bs) Q
    fine_all [] best h all = h
    fine_all (b ∷ bs) best h all = fine_all bs (lower_first best b.entries) (fine_first best b.entries h all.0) all.1

  none_found : (x : Option (Row T)) → ((r : Row T) → x ≡ Some r → ⊥) → x ≡ None
  none_found None f = refl
  none_found (Some r) f = absurd (f r refl)

  held_some : (x : Option (Row T)) (h : Held T) → option_map held_of x ≡ Some h → (P : Type 0) → ((r : Row T) → x ≡ Some r → P) → P
  held_some None h e P f = absurd (true≢false (sym (ap is_some e)))
  held_some (Some r) h e P f = f r refl

  first_at : (bs : List (Bucket T)) (out : Option (Row T)) → ((q : RingKey) (r : Row T) → find (gathered bs) q ≡ Some r → NotAbove out q)
      → IfSome out (λ r. find (gathered bs) r.key ≡ Some r) → option_map entry_of out ≡ slice_get (rows_in bs) 0
  first_at bs None bound fine =
      let empty = nil_from_lookup (eq_by_cmp_equiv key_total) (gathered bs) (λ q. none_found (find (gathered bs) q) (bound q)) in
      sym (ap (λ es. slice_get (map {B = RingKey × Held T} (λ (e : RingKey × Row T). (e.0, held_of e.1)) es) 0) empty)
  first_at bs (Some b) bound fine =
      head_is b.key (held_of b) (rows_in bs) (sorted-rows bs) (find-rows bs b.key ∙ ap (option_map held_of) fine)
      (λ q h e. held_some (find (gathered bs) q) h (sym (find-rows bs q) ∙ e) (is_gt (key_cmp b.key q) ≡ false) (bound q))

  pub first_is : (bs : List (Bucket T)) → AreBuckets 0 bs → option_map entry_of (first_of None bs) ≡ slice_get (rows_in bs) 0
  first_is bs are = first_at bs (first_of None bs) (bound_all 0 bs are None) (fine_all (λ r. find (gathered bs) r.key ≡ Some r) bs None tt (each_row 0 0 bs are))
