-- Laws of an edit of one bucket at one key, and of a row's value that is lent and written.
use Rattle.std.proofs.Common.{◌≡◌, ℕ, ◌<◌, ◌≤◌, Bool, true, false, cond, length, ⊎_elim, ◌⊎◌, inl, refl, sym, ap, ◌∙◌, subst, arith, List}
use Rattle.std.specs.Prelude.{Option, Some, None, slice_index_or, slice_set}
use Rattle.std.specs.Option.{is_some, option_map, unwrap_or, IsSome}
use Rattle.std.specs.Ordering.{is_eq}
use Rattle.std.specs.Cmp.{eq_by_cmp_equiv}
use Rattle.std.specs.List.Sorted.{IsStrictlySortedBy}
use Rattle.std.specs.Map.{remove_entry, set_value}
use Rattle.std.specs.BTreeMap.{is_at, insert_entry, IsOrdered}
use Rattle.std.proofs.lemmas.Bool.{cases_Bool, cases_lt, cases_eq}
use Rattle.std.proofs.lemmas.List.{length-set, get_or-set_same, get_or-set_other}
use Rattle.std.proofs.lemmas.Map.{keys-set_value, length-set_value, lookup-set_value, lookup-remove_entry}
use Rattle.std.proofs.lemmas.Map.Keys.{IsDistinct-from_sorted}
use Rattle.argo_base.specs.declared.ring_key.RingKey.{RingKey}
use Rattle.argo_base.specs.Match.{key_cmp}
use Rattle.ring_table.specs.declared.row.Row.{Row}
use Rattle.ring_table.specs.Rows.{Held, held, held_of, most_rows}
use Rattle.ring_table.specs.Buckets.{bucket_of, gathered, rows_in, IsBucket, AreBuckets, IsTable}
use Rattle.ring_table.specs.Edits.{with_value}
use Rattle.ring_table.proofs.BucketLaws.{Bucket, find, key_total, key_exact, key_is, AreBuckets-set, from_zero, find-bucket, find-past, bucket_of_all, find-rows, sorted-rows, held_in}
use Rattle.ring_table.proofs.EntryLaws.{find-insert, sorted-insert, sorted-remove, same_entries}

module _ {T : Type 0} (bs : List (Bucket T)) (are : AreBuckets 0 bs) (key : RingKey) (j : ℕ) (at_key : j ≡ bucket_of key) (within : j < length bs)
    (d b : Bucket T) (w : Option (Row T)) (updates : (q : RingKey) → find b.entries q ≡ cond (is_at (key_cmp key) q) w (find (slice_index_or bs j d).entries q))
    (own : (row : Row T) → w ≡ Some row → row.key ≡ key) (ordered : IsOrdered key_cmp b) where
  edited_at : (q : RingKey) (row : Row T) (c : Bool) → is_at (key_cmp key) q ≡ c → cond c w (find (slice_index_or bs j d).entries q) ≡ Some row → (bucket_of q ≡ j) × (row.key ≡ q)
  edited_at q row true h e = let k = key_is key q h in (sym (at_key ∙ ap bucket_of k), own row e ∙ k)
  edited_at q row false h e = (bucket_of_all bs are j d within).own q row e

  edited_bucket : IsBucket j b
  edited_bucket = record { ordered = ordered; own = λ q row e. edited_at q row (is_at (key_cmp key) q) refl (sym (updates q) ∙ e) }

  pub edited_buckets : AreBuckets 0 (slice_set bs j b)
  edited_buckets = AreBuckets-set 0 bs are j b (subst (λ n. IsBucket n b) (sym (from_zero j)) edited_bucket)

  edited_length : length (slice_set bs j b) ≡ length bs
  edited_length = length-set bs j b

  here : (q : RingKey) → bucket_of q ≡ j → find (gathered (slice_set bs j b)) q ≡ cond (is_at (key_cmp key) q) w (find (gathered bs) q)
  here q e =
      let inside : j < length (slice_set bs j b) = omega (arith, within, edited_length) in
      find-bucket (slice_set bs j b) edited_buckets q j d e inside
      ∙ ap (λ c. find c.entries q) (get_or-set_same bs j b d within)
      ∙ updates q
      ∙ ap (cond (is_at (key_cmp key) q) w) (sym (find-bucket bs are q j d e within))

  elsewhere : (q : RingKey) → (bucket_of q ≡ j → ⊥) → find (gathered (slice_set bs j b)) q ≡ find (gathered bs) q
  elsewhere q other = ⊎_elim
      (λ inside.
      find-bucket (slice_set bs j b) edited_buckets q (bucket_of q) d refl (omega (arith, inside, edited_length))
      ∙ ap (λ c. find c.entries q) (get_or-set_other bs j (bucket_of q) b d other)
      ∙ sym (find-bucket bs are q (bucket_of q) d refl inside))
      (λ past.
      find-past (slice_set bs j b) edited_buckets q (omega (arith, past, edited_length))
      ∙ sym (find-past bs are q past))
      (cases_lt (bucket_of q) (length bs))

  not_key : (q : RingKey) → (bucket_of q ≡ j → ⊥) → is_at (key_cmp key) q ≡ false
  not_key q other = ⊎_elim (λ h. absurd (other (sym (at_key ∙ ap bucket_of (key_is key q h))))) (λ h. h) (cases_Bool (is_at (key_cmp key) q))

  find-edited : (q : RingKey) → find (gathered (slice_set bs j b)) q ≡ cond (is_at (key_cmp key) q) w (find (gathered bs) q)
  find-edited q = ⊎_elim (here q) (λ other. elsewhere q other ∙ sym (ap (λ c. cond c w (find (gathered bs) q)) (not_key q other))) (cases_eq (bucket_of q) j)

  held_by : (c : Bool) (x : Option (Row T)) → option_map held_of (cond c w x) ≡ cond c (option_map held_of w) (option_map held_of x)
  held_by true x = refl
  held_by false x = refl

  -- what stands under each key afterwards
  pub find-edited_rows : (q : RingKey) → find (rows_in (slice_set bs j b)) q ≡ cond (is_at (key_cmp key) q) (option_map held_of w) (find (rows_in bs) q)
  find-edited_rows q =
      find-rows (slice_set bs j b) q
      ∙ ap (option_map held_of) (find-edited q)
      ∙ held_by (is_at (key_cmp key) q) (find (gathered bs) q)
      ∙ ap (cond (is_at (key_cmp key) q) (option_map held_of w)) (sym (find-rows bs q))

  pub inserted : (row : Row T) → w ≡ Some row → rows_in (slice_set bs j b) ≡ insert_entry key_cmp (rows_in bs) key (held_of row)
  inserted row e =
      same_entries key_total key_exact (rows_in (slice_set bs j b)) (insert_entry key_cmp (rows_in bs) key (held_of row))
      (sorted-rows (slice_set bs j b)) (sorted-insert key_total key (held_of row) (rows_in bs) (sorted-rows bs))
      (λ q. find-edited_rows q
      ∙ ap (λ x. cond (is_at (key_cmp key) q) (option_map held_of x) (find (rows_in bs) q)) e
      ∙ sym (find-insert key_total key (held_of row) (rows_in bs) q))

  one_key : (x y : RingKey) → is_at (key_cmp key) x ≡ true → is_at (key_cmp key) y ≡ is_eq (key_cmp x y)
  one_key x y h = ap (λ k. is_eq (key_cmp k y)) (key_is key x h)

  pub removed : w ≡ None → rows_in (slice_set bs j b) ≡ remove_entry (is_at (key_cmp key)) (rows_in bs)
  removed e =
      same_entries key_total key_exact (rows_in (slice_set bs j b)) (remove_entry (is_at (key_cmp key)) (rows_in bs))
      (sorted-rows (slice_set bs j b)) (sorted-remove key_total (is_at (key_cmp key)) (rows_in bs) (sorted-rows bs))
      (λ q. find-edited_rows q
      ∙ ap (λ x. cond (is_at (key_cmp key) q) (option_map held_of x) (find (rows_in bs) q)) e
      ∙ sym (lookup-remove_entry (eq_by_cmp_equiv key_total) (is_at (key_cmp key)) one_key q (rows_in bs) (IsDistinct-from_sorted key_cmp _ (sorted-rows bs))))

  pub written : (row : Row T) → w ≡ Some row → IsSome (find (rows_in bs) key) → rows_in (slice_set bs j b) ≡ set_value (is_at (key_cmp key)) (rows_in bs) (held_of row)
  written row e there =
      same_entries key_total key_exact (rows_in (slice_set bs j b)) (set_value (is_at (key_cmp key)) (rows_in bs) (held_of row))
      (sorted-rows (slice_set bs j b)) (subst (IsStrictlySortedBy key_cmp) (sym (keys-set_value (is_at (key_cmp key)) (rows_in bs) (held_of row))) (sorted-rows bs))
      (λ q. find-edited_rows q
      ∙ ap (λ x. cond (is_at (key_cmp key) q) (option_map held_of x) (find (rows_in bs) q)) e
      ∙ sym (lookup-set_value (eq_by_cmp_equiv key_total) (is_at (key_cmp key)) one_key q (held_of row) (rows_in bs) there))

  serial_of : (x : Option (Held T)) (row : Row T) → x ≡ Some (held_of row) → unwrap_or (option_map (λ h. h.serial) x) 0 ≡ row.serial
  serial_of x row h = ap (λ y. unwrap_or (option_map (λ h. h.serial) y) 0) h

  -- a value that was written: its row keeps the serial
  pub written_value : (old : Row T) (v : T) → find (rows_in bs) key ≡ Some (held_of old) → w ≡ Some (record old { value = v })
      → rows_in (slice_set bs j b) ≡ with_value (rows_in bs) key v
  written_value old v there e =
      written (record old { value = v }) e (ap is_some there)
      ∙ ap (λ n. set_value (is_at (key_cmp key)) (rows_in bs) (held n v)) (sym (serial_of (find (rows_in bs) key) old there))

  pub table_after : (n m : ℕ) → IsTable bs n → m ≡ length (rows_in (slice_set bs j b)) → m ≤ most_rows → IsTable (slice_set bs j b) m
  table_after n m t counted most = record {
    whole = subst (λ k. (k ≡ 0) ⊎ (k ≡ 8)) (sym edited_length) t.whole;
    buckets = edited_buckets;
    counted = counted;
    most = most;
  }

-- what a lender ends as, by what it ends as for each value
pub lends_as : {N D E : Type 0} {n : N} {F G : E → D} → ((w : E) → F w ≡ G w) → ◌≡◌ {A = (N × (E → D)) ⊎ D} (inl (n, F)) (inl (n, G))
lends_as {n = n} same = λ k. inl (n, λ w. same w k)

-- ---- a row's value is lent, and written

module _ {T : Type 0} (bs : List (Bucket T)) (are : AreBuckets 0 bs) (key : RingKey) (j : ℕ) (at_key : j ≡ bucket_of key) (within : j < length bs)
    (d : Bucket T) (old : Row T) (there : find (slice_index_or bs j d).entries key ≡ Some old) (lender : Row T → Bucket T)
    (holds : (row : Row T) (q : RingKey) → find (lender row).entries q ≡ cond (is_at (key_cmp key) q) (Some row) (find (slice_index_or bs j d).entries q))
    (ordered : (row : Row T) → IsOrdered key_cmp (lender row)) where
  abbrev row_with : T → Row T
  row_with v = record old { value = v }

  own_row : (v : T) (row : Row T) → Some (row_with v) ≡ Some row → row.key ≡ key
  own_row v row e = ap (λ x. (unwrap_or x old).key) (sym e) ∙ ((bucket_of_all bs are j d within).own key old there).1

  stands : find (rows_in bs) key ≡ Some (held_of old)
  stands = held_in bs are key j d at_key within ∙ ap (option_map held_of) there

  pub lent_rows : (v : T) → rows_in (slice_set bs j (lender (row_with v))) ≡ with_value (rows_in bs) key v
  lent_rows v = written_value bs are key j at_key within d (lender (row_with v)) (Some (row_with v)) (holds (row_with v)) (own_row v) (ordered (row_with v)) old v stands refl

  pub lent_table : (n : ℕ) → IsTable bs n → (v : T) → IsTable (slice_set bs j (lender (row_with v))) n
  lent_table n t v =
      table_after bs are key j at_key within d (lender (row_with v)) (Some (row_with v)) (holds (row_with v)) (own_row v) (ordered (row_with v)) n n t
      (t.counted ∙ sym (ap length (lent_rows v) ∙ length-set_value (is_at (key_cmp key)) (rows_in bs) _)) t.most
