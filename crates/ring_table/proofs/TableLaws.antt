-- Laws of a whole table, for each way to change it.
use Rattle.std.proofs.Common.{◌≡◌, ℕ, zero, suc, ◌+◌, ◌-◌, ◌<◌, cond, List, [], ◌∷◌, ◌++◌, length, ◌⊎◌, ⊎_elim, refl, sym, ap, ◌∙◌, subst, arith, map, inr, true≢false}
use Rattle.std.specs.Prelude.{Some, None, slice_index_or, slice_set}
use Rattle.std.specs.Option.{is_some, option_map, unwrap_or}
use Rattle.std.specs.List.Sorted.{IsStrictlySortedBy}
use Rattle.std.specs.Map.{keys_of, remove_entry}
use Rattle.std.specs.BTreeMap.{is_at, insert_entry, IsOrdered}
use Rattle.std.proofs.lemmas.List.{length-set}
use Rattle.argo_base.specs.declared.ring_key.RingKey.{RingKey}
use Rattle.argo_base.specs.Match.{key_cmp}
use Rattle.ring_table.specs.declared.row.Row.{Row}
use Rattle.ring_table.specs.Rows.{held_of, most_rows}
use Rattle.ring_table.specs.Buckets.{bucket_of, put_all, gathered, rows_in, IsBucket, AreBuckets, IsTable, AreEmpty, Made}
use Rattle.ring_table.proofs.EntryLaws.{length-insert, length-remove, remove-absent}
use Rattle.ring_table.proofs.BucketLaws.{Bucket, key_total, find, held_in}
use Rattle.ring_table.proofs.EditLaws.{inserted, removed, table_after}

-- a table without a key's row
module _ {T : Type 0} (bs : List (Bucket T)) (n : ℕ) (t : IsTable bs n) (key : RingKey) (j : ℕ) (at_key : j ≡ bucket_of key) (within : j < length bs)
    (d b : Bucket T) (updates : (q : RingKey) → find b.entries q ≡ cond (is_at (key_cmp key) q) None (find (slice_index_or bs j d).entries q))
    (ordered : IsOrdered key_cmp b) where
  own_none : (row : Row T) → None ≡ Some row → row.key ≡ key
  own_none row e = ap (λ x. unwrap_or (option_map (λ r. r.key) x) key) (sym e)

  pub rows_without : rows_in (slice_set bs j b) ≡ remove_entry (is_at (key_cmp key)) (rows_in bs)
  rows_without = removed bs t.buckets key j at_key within d b None updates own_none ordered refl

  pub table_without : (old : Row T) → find (slice_index_or bs j d).entries key ≡ Some old → (0 < n) × IsTable (slice_set bs j b) (n - 1)
  table_without old there =
      let held_there : find (rows_in bs) key ≡ Some (held_of old) = held_in bs t.buckets key j d at_key within ∙ ap (option_map held_of) there in
      let fewer = length-remove key_total (is_at (key_cmp key)) (rows_in bs) (held_of old) held_there in
      let same = ap length rows_without in
      let counted = t.counted in
      let most = t.most in (
        omega (arith, fewer, same, counted),
        table_after bs t.buckets key j at_key within d b None updates own_none ordered n (n - 1) t (omega (arith, fewer, same, counted)) (omega (arith, most)),
      )

  pub table_same : find (slice_index_or bs j d).entries key ≡ None → IsTable (slice_set bs j b) n
  table_same absent =
      let held_none : find (rows_in bs) key ≡ None = held_in bs t.buckets key j d at_key within ∙ ap (option_map held_of) absent in
      let same = rows_without ∙ remove-absent key_total (is_at (key_cmp key)) (rows_in bs) held_none in
      table_after bs t.buckets key j at_key within d b None updates own_none ordered n n t (t.counted ∙ ap length (sym same)) t.most

-- a table with a row more
module _ {T : Type 0} (bs : List (Bucket T)) (n : ℕ) (t : IsTable bs n) (key : RingKey) (j : ℕ) (at_key : j ≡ bucket_of key) (within : j < length bs)
    (d b : Bucket T) (row : Row T) (own : row.key ≡ key) (ordered : IsOrdered key_cmp b)
    (updates : (q : RingKey) → find b.entries q ≡ cond (is_at (key_cmp key) q) (Some row) (find (slice_index_or bs j d).entries q)) where
  own_some : (r : Row T) → Some row ≡ Some r → r.key ≡ key
  own_some r e = ap (λ x. unwrap_or (option_map (λ y. y.key) x) key) (sym e) ∙ own

  pub rows_with : rows_in (slice_set bs j b) ≡ insert_entry key_cmp (rows_in bs) key (held_of row)
  rows_with = inserted bs t.buckets key j at_key within d b (Some row) updates own_some ordered row refl

  pub table_with : find (rows_in bs) key ≡ None → n < most_rows → IsTable (slice_set bs j b) (n + 1)
  table_with absent room =
      let more = length-insert key_total key (held_of row) (rows_in bs) absent in
      let same = ap length rows_with in
      let counted = t.counted in
      table_after bs t.buckets key j at_key within d b (Some row) updates own_some ordered n (n + 1) t (omega (arith, more, same, counted)) (omega (arith, room))

none_sorted : IsStrictlySortedBy key_cmp []
unfolding IsStrictlySortedBy
none_sorted = tt

-- a table whose buckets were made
module _ {T : Type 0} where
  empty_gathered : (bs : List (Bucket T)) → AreEmpty bs → gathered bs ≡ []
  empty_gathered [] e = refl
  empty_gathered (b ∷ bs) e = ap (λ es. put_all es (gathered bs)) e.0 ∙ empty_gathered bs e.1

  none_has : (b : Bucket T) (i : ℕ) → b.entries ≡ [] → IsBucket i b
  none_has b i e = record {
    ordered = subst (λ es. IsStrictlySortedBy key_cmp (keys_of es)) (sym e) none_sorted;
    own = λ q row h. absurd (true≢false (sym (ap is_some h) ∙ ap (λ es. is_some (find es q)) e));
  }

  empty_buckets : (i : ℕ) (bs : List (Bucket T)) → AreEmpty bs → AreBuckets i bs
  empty_buckets i [] e = tt
  empty_buckets i (b ∷ bs) e = (none_has b i e.0, empty_buckets (i + 1) bs e.1)

  none_at_all : (bs : List (Bucket T)) → length bs ≡ 0 → rows_in bs ≡ []
  none_at_all [] h = refl
  none_at_all (b ∷ bs) h = absurd (omega (arith, h))

  pub made_rows : (old new : List (Bucket T)) → Made old new → rows_in new ≡ rows_in old
  made_rows old new m = ⊎_elim (ap rows_in) (λ e. ap (map (λ x. (x.0, held_of x.1))) (empty_gathered new e.1) ∙ sym (none_at_all old e.0)) m.same

  pub made_table : (old new : List (Bucket T)) (n : ℕ) → IsTable old n → Made old new → IsTable new n
  made_table old new n t m = record {
    whole = inr m.whole;
    buckets = ⊎_elim (λ e. subst (AreBuckets 0) (sym e) t.buckets) (λ e. empty_buckets 0 new e.1) m.same;
    counted = t.counted ∙ ap length (sym (made_rows old new m));
    most = t.most;
  }

  pub push_empty : (bs : List (Bucket T)) (b : Bucket T) → AreEmpty bs → b.entries ≡ [] → AreEmpty (bs ++ b ∷ [])
  push_empty [] b e h = (h, tt)
  push_empty (c ∷ bs) b e h = (e.0, push_empty bs b e.1 h)

  kept_gathered : (bs : List (Bucket T)) (j : ℕ) (d b : Bucket T) → b.entries ≡ (slice_index_or bs j d).entries → gathered (slice_set bs j b) ≡ gathered bs
  kept_gathered [] j d b e = refl
  kept_gathered (c ∷ bs) zero d b e = ap (λ es. put_all es (gathered bs)) e
  kept_gathered (c ∷ bs) (suc j) d b e = ap (put_all c.entries) (kept_gathered bs j d b e)

  -- a bucket with the same entries
  pub kept_rows : (bs : List (Bucket T)) (j : ℕ) (d b : Bucket T) → b.entries ≡ (slice_index_or bs j d).entries → rows_in (slice_set bs j b) ≡ rows_in bs
  kept_rows bs j d b e = ap (map (λ x. (x.0, held_of x.1))) (kept_gathered bs j d b e)

  kept_buckets : (i : ℕ) (bs : List (Bucket T)) (j : ℕ) (d b : Bucket T) → AreBuckets i bs → b.entries ≡ (slice_index_or bs j d).entries → AreBuckets i (slice_set bs j b)
  kept_buckets i [] j d b are e = tt
  kept_buckets i (c ∷ bs) zero d b are e = (
    record {
      ordered = subst (λ es. IsStrictlySortedBy key_cmp (keys_of es)) (sym e) are.0.ordered;
      own = λ q row h. are.0.own q row (ap (λ es. find es q) (sym e) ∙ h);
    },
    are.1,
  )
  kept_buckets i (c ∷ bs) (suc j) d b are e = (are.0, kept_buckets (i + 1) bs j d b are.1 e)

  pub kept_table : (bs : List (Bucket T)) (n : ℕ) (j : ℕ) (d b : Bucket T) → IsTable bs n → b.entries ≡ (slice_index_or bs j d).entries → IsTable (slice_set bs j b) n
  kept_table bs n j d b t e = record {
    whole = subst (λ k. (k ≡ 0) ⊎ (k ≡ 8)) (sym (length-set bs j b)) t.whole;
    buckets = kept_buckets 0 bs j d b t.buckets e;
    counted = t.counted ∙ ap length (sym (kept_rows bs j d b e));
    most = t.most;
  }
