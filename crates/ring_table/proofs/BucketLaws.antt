-- Laws of the buckets.
use Rattle.std.proofs.Common.{◌≡◌, ℕ, zero, suc, ◌+◌, ◌<◌, ◌≤◌, Bool, true, false, cond, true≢false, List, [], ◌∷◌, length, map, ⊎_elim, ◌⊎◌, inl, inr, refl, sym, ap, ◌∙◌, subst, arith, Bor}
use Rattle.std.specs.Prelude.{Option, Some, None, slice_index_or, slice_set}
use Rattle.std.specs.Option.{is_some, option_map, option_or, option_copied, IfNone}
use Rattle.std.specs.Ordering.{is_eq, nat_cmp}
use Rattle.std.specs.declared.cmp.Ordering.TheVariants.{Less, Equal, Greater}
use Rattle.std.specs.Cmp.{IsTotalOrder, then_total, on_total, nat_cmp_total, tied_itself, eq_by_cmp_equiv}
use Rattle.std.specs.List.Sorted.{IsStrictlySortedBy}
use Rattle.std.specs.Map.{keys_of, lookup}
use Rattle.std.specs.BTreeMap.{BTreeMap, is_at}
use Rattle.std.proofs.lemmas.Map.Lookups.{CmpEqualImpliesEq, exact_unsigned, exact_pairs}
use Rattle.std.proofs.lemmas.Map.Made.{lookup-map_values}
use Rattle.argo_base.specs.declared.ring_key.RingKey.{RingKey}
use Rattle.argo_base.specs.Match.{key_cmp, at_key}
use Rattle.ring_table.specs.declared.row.Row.{Row}
use Rattle.ring_table.specs.Rows.{Held, held_of, row_of}
use Rattle.ring_table.specs.Buckets.{bucket_of, put_all, gathered, rows_in, IsBucket, AreBuckets}
use Rattle.ring_table.proofs.EntryLaws.{find-insert, sorted-insert}

-- ---- the order of keys

pub key_total : IsTotalOrder key_cmp
key_total = then_total (on_total (λ key. key.port) nat_cmp_total) (on_total (λ key. key.partner) nat_cmp_total)

pub key_exact : CmpEqualImpliesEq key_cmp
key_exact x y e =
    let p = exact_pairs nat_cmp nat_cmp exact_unsigned exact_unsigned (x.port, x.partner) (y.port, y.partner) e in
    λ i. record { port = (p i).0; partner = (p i).1 }

abbrev pub find : {X : Type 0} → List (RingKey × X) → RingKey → Option X
find es q = lookup (is_at (key_cmp q)) es

-- a query that passes is for the key itself
pub key_is : (k q : RingKey) → is_at (key_cmp k) q ≡ true → k ≡ q
key_is k q h = key_exact k q (equal_of (key_cmp k q) h)
  where
    equal_of : (r : _) → is_eq r ≡ true → r ≡ Equal
    equal_of Less h = absurd (true≢false (sym h))
    equal_of Equal h = refl
    equal_of Greater h = absurd (true≢false (sym h))

pub key_itself : (k : RingKey) → is_at (key_cmp k) k ≡ true
key_itself k = ap is_eq (tied_itself key_total k)

-- ---- entries of all buckets

pub or_none : {X : Type 0} (x : Option X) → option_or x None ≡ x
or_none None = refl
or_none (Some x) = refl

module _ {X : Type 0} where
  put_at : (a b : Bool) (v : X) (x y : Option X) → a ≡ b → cond a (Some v) (option_or x y) ≡ option_or (cond b (Some v) x) y
  put_at true true v x y e = refl
  put_at true false v x y e = absurd (true≢false e)
  put_at false true v x y e = absurd (true≢false (sym e))
  put_at false false v x y e = refl

  pub find-put_all : (es into : List (RingKey × X)) (q : RingKey) → find (put_all es into) q ≡ option_or (find es q) (find into q)
  find-put_all [] into q = refl
  find-put_all (e ∷ es) into q =
      find-insert key_total e.0 e.1 (put_all es into) q
      ∙ ap (cond (is_at (key_cmp e.0) q) (Some e.1)) (find-put_all es into q)
      ∙ put_at (is_at (key_cmp e.0) q) (is_at (key_cmp q) e.0) e.1 (find es q) (find into q) ((eq_by_cmp_equiv key_total).symm e.0 q)

  sorted-put_all : (es into : List (RingKey × X)) → IsStrictlySortedBy key_cmp (keys_of into) → IsStrictlySortedBy key_cmp (keys_of (put_all es into))
  sorted-put_all [] into s = s
  sorted-put_all (e ∷ es) into s = sorted-insert key_total e.0 e.1 (put_all es into) (sorted-put_all es into s)

  sorted-gathered : (bs : List (BTreeMap RingKey X)) → IsStrictlySortedBy key_cmp (keys_of (gathered bs))
  unfolding IsStrictlySortedBy
  sorted-gathered [] = tt
  sorted-gathered (b ∷ bs) = sorted-put_all b.entries (gathered bs) (sorted-gathered bs)

pub from_zero : (n : ℕ) → 0 + n ≡ n
from_zero n = omega arith

abbrev pub Bucket : Type 0 → Type 0
Bucket T = BTreeMap RingKey (Row T)

module _ {T : Type 0} where
  none_if_not : (x : Option (Row T)) → ((row : Row T) → x ≡ Some row → ⊥) → x ≡ None
  none_if_not None h = refl
  none_if_not (Some row) h = absurd (h row refl)

  -- a bucket has nothing of the keys of others
  pub bucket_without : (i : ℕ) (b : Bucket T) → IsBucket i b → (q : RingKey) → (bucket_of q ≡ i → ⊥) → find b.entries q ≡ None
  bucket_without i b is q other = none_if_not (find b.entries q) (λ row h. other (is.own q row h).0)

  -- nothing stands outside the bucket of its key
  pub find-without : (i : ℕ) (bs : List (Bucket T)) → AreBuckets i bs → (q : RingKey) → (bucket_of q < i) ⊎ (i + length bs ≤ bucket_of q) → find (gathered bs) q ≡ None
  find-without i [] are q other = refl
  find-without i (b ∷ bs) are q other =
      find-put_all b.entries (gathered bs) q
      ∙ ap (λ x. option_or x (find (gathered bs) q)) (bucket_without i b are.0 q (λ e. ⊎_elim (λ l. omega (arith, e)) (λ m. omega (arith, e)) other))
      ∙ find-without (i + 1) bs are.1 q (⊎_elim (λ l. inl (omega arith)) (λ m. inr (omega arith)) other)

  -- what stands under a key stands in the key's bucket
  find-gathered : (i : ℕ) (bs : List (Bucket T)) → AreBuckets i bs → (q : RingKey) (j : ℕ) (d : Bucket T) → bucket_of q ≡ i + j → j < length bs
      → find (gathered bs) q ≡ find (slice_index_or bs j d).entries q
  find-gathered i [] are q j d e l = absurd (omega (arith, l))
  find-gathered i (b ∷ bs) are q zero d e l =
      find-put_all b.entries (gathered bs) q
      ∙ ap (option_or (find b.entries q)) (find-without (i + 1) bs are.1 q (inl (omega (arith, e))))
      ∙ or_none (find b.entries q)
  find-gathered i (b ∷ bs) are q (suc j) d e l =
      find-put_all b.entries (gathered bs) q
      ∙ ap (λ x. option_or x (find (gathered bs) q)) (bucket_without i b are.0 q (λ f. omega (arith, e, f)))
      ∙ find-gathered (i + 1) bs are.1 q j d (omega (arith, e)) (omega (arith, l))

  bucket_at : (i : ℕ) (bs : List (Bucket T)) → AreBuckets i bs → (j : ℕ) (d : Bucket T) → j < length bs → IsBucket (i + j) (slice_index_or bs j d)
  bucket_at i [] are j d l = absurd (omega (arith, l))
  bucket_at i (b ∷ bs) are zero d l = let e : i + 0 ≡ i = omega arith in subst (λ n. IsBucket n b) (sym e) are.0
  bucket_at i (b ∷ bs) are (suc j) d l =
      let e : i + suc j ≡ i + 1 + j = omega arith in
      subst (λ n. IsBucket n (slice_index_or bs j d)) (sym e) (bucket_at (i + 1) bs are.1 j d (omega (arith, l)))

  pub AreBuckets-set : (i : ℕ) (bs : List (Bucket T)) → AreBuckets i bs → (j : ℕ) (b : Bucket T) → IsBucket (i + j) b → AreBuckets i (slice_set bs j b)
  AreBuckets-set i [] are j b is = tt
  AreBuckets-set i (c ∷ bs) are zero b is = let e : i + 0 ≡ i = omega arith in (subst (λ n. IsBucket n b) e is, are.1)
  AreBuckets-set i (c ∷ bs) are (suc j) b is =
      let e : i + suc j ≡ i + 1 + j = omega arith in
      (are.0, AreBuckets-set (i + 1) bs are.1 j b (subst (λ n. IsBucket n b) e is))

  -- the same of all buckets
  pub find-bucket : (bs : List (Bucket T)) → AreBuckets 0 bs → (q : RingKey) (j : ℕ) (d : Bucket T) → bucket_of q ≡ j → j < length bs
      → find (gathered bs) q ≡ find (slice_index_or bs j d).entries q
  find-bucket bs are q j d e within = find-gathered 0 bs are q j d (e ∙ sym (from_zero j)) within

  pub find-past : (bs : List (Bucket T)) → AreBuckets 0 bs → (q : RingKey) → length bs ≤ bucket_of q → find (gathered bs) q ≡ None
  find-past bs are q past = find-without 0 bs are q (inr (omega (arith, past)))

  pub bucket_of_all : (bs : List (Bucket T)) → AreBuckets 0 bs → (j : ℕ) (d : Bucket T) → j < length bs → IsBucket j (slice_index_or bs j d)
  bucket_of_all bs are j d within = subst (λ n. IsBucket n (slice_index_or bs j d)) (from_zero j) (bucket_at 0 bs are j d within)

  -- ---- the rows of a table

  pub find-rows : (bs : List (Bucket T)) (q : RingKey) → find (rows_in bs) q ≡ option_map held_of (find (gathered bs) q)
  find-rows bs q = lookup-map_values held_of (is_at (key_cmp q)) (gathered bs)

  keys-held : (es : List (RingKey × Row T)) → keys_of (map {B = RingKey × Held T} (λ (e : RingKey × Row T). (e.0, held_of e.1)) es) ≡ keys_of es
  keys-held [] = refl
  keys-held (e ∷ es) = ap (λ ks. e.0 ∷ ks) (keys-held es)

  -- rows stand by rising key
  pub sorted-rows : (bs : List (Bucket T)) → IsStrictlySortedBy key_cmp (keys_of (rows_in bs))
  sorted-rows bs = subst (IsStrictlySortedBy key_cmp) (sym (keys-held (gathered bs))) (sorted-gathered bs)

  row_back : (x : Option (Row T)) (key : RingKey) → ((row : Row T) → x ≡ Some row → row.key ≡ key)
      → x ≡ option_map row_of (option_map (λ h. (key, h)) (option_map held_of x))
  row_back None key own = refl
  row_back (Some row) key own = let k = own row refl in ap Some (λ i. record { key = k i; serial = row.serial; value = row.value })

  -- a look-up in the bucket of a key finds the key's row
  pub found : (bs : List (Bucket T)) → AreBuckets 0 bs → (q : RingKey) (j : ℕ) (d : Bucket T) → j ≡ bucket_of q → j < length bs
      → find (slice_index_or bs j d).entries q ≡ option_map row_of (at_key (rows_in bs) q)
  found bs are q j d e within =
      row_back _ q (λ row h. ((bucket_of_all bs are j d within).own q row h).1)
      ∙ ap (λ x. option_map row_of (option_map (λ h. (q, h)) (option_map held_of x))) (sym (find-bucket bs are q j d (sym e) within))
      ∙ ap (λ x. option_map row_of (option_map (λ h. (q, h)) x)) (sym (find-rows bs q))

  -- where its bucket is not there, no row is
  pub not_found : (bs : List (Bucket T)) → AreBuckets 0 bs → (q : RingKey) → length bs ≤ bucket_of q → at_key (rows_in bs) q ≡ None
  not_found bs are q past = ap (option_map (λ h. (q, h))) (find-rows bs q ∙ ap (option_map held_of) (find-past bs are q past))

  -- what a look-up in the bucket of a key finds is what the table holds there
  pub held_in : (bs : List (Bucket T)) → AreBuckets 0 bs → (q : RingKey) (j : ℕ) (d : Bucket T) → j ≡ bucket_of q → j < length bs
      → find (rows_in bs) q ≡ option_map held_of (find (slice_index_or bs j d).entries q)
  held_in bs are q j d e within = find-rows bs q ∙ ap (option_map held_of) (find-bucket bs are q j d (sym e) within)

  no_row : (x : Option (Held T)) (q : RingKey) → None ≡ option_map row_of (option_map (λ h. (q, h)) x) → x ≡ None
  no_row None q e = refl
  no_row (Some h) q e = absurd (true≢false (sym (ap is_some e)))

  -- where no row is found, none stands
  pub absent_from : (rows : List (RingKey × Held T)) (q : RingKey) (o : Option (Bor (Row T))) → option_copied o ≡ option_map row_of (at_key rows q) → IfNone o (find rows q ≡ None)
  absent_from rows q None e = no_row (find rows q) q e
  absent_from rows q (Some row) e = tt
