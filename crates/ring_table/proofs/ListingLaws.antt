-- Laws of the keys of a table, as they are gathered.
use Rattle.std.proofs.Common.{◌≡◌, ℕ, ◌+◌, Bool, true, false, cond, true≢false, List, [], ◌∷◌, inl, refl, sym, ap, ◌∙◌, subst, arith}
use Rattle.std.specs.Prelude.{Option, Some, None}
use Rattle.std.specs.Option.{option_map, option_or}
use Rattle.std.specs.Cmp.{eq_by_cmp_equiv}
use Rattle.std.specs.List.Sorted.{IsStrictlySortedBy}
use Rattle.std.specs.Map.{keys_of}
use Rattle.std.specs.BTreeMap.{is_at, insert_entry}
use Rattle.std.proofs.lemmas.Map.Made.{keys_of-map_values, lookup-map_values}
use Rattle.argo_base.specs.declared.ring_key.RingKey.{RingKey}
use Rattle.argo_base.specs.Match.{key_cmp}
use Rattle.ring_table.specs.declared.row.Row.{Row}
use Rattle.ring_table.specs.Rows.{Held, held_of}
use Rattle.ring_table.specs.Buckets.{gathered, rows_in, AreBuckets}
use Rattle.ring_table.specs.Listing.{serials_of, listed_in, listed_of}
use Rattle.ring_table.proofs.BucketLaws.{Bucket, find, key_total, key_exact, or_none, find-put_all, find-without, find-rows, sorted-rows}
use Rattle.ring_table.proofs.EntryLaws.{find-insert, sorted-insert, past, same_entries}

module _ {T : Type 0} where
  abbrev serial : Option (Row T) → Option ℕ
  serial None = None
  serial (Some row) = Some row.serial

  put_to : (b c : Bool) (e : Row T) (x : Option (Row T)) (y : Option ℕ) → b ≡ c → (c ≡ true → x ≡ None)
      → option_or (serial x) (cond b (Some e.serial) y) ≡ option_or (serial (cond c (Some e) x)) y
  put_to true true e x y same none = ap (λ o. option_or (serial o) (Some e.serial)) (none refl)
  put_to true false e x y same none = absurd (true≢false same)
  put_to false true e x y same none = absurd (true≢false (sym same))
  put_to false false e x y same none = refl

  find-listed_in : (into : List (RingKey × ℕ)) (es : List (RingKey × Row T)) → IsStrictlySortedBy key_cmp (keys_of es) → (q : RingKey)
      → find (listed_in into es) q ≡ option_or (serial (find es q)) (find into q)
  unfolding IsStrictlySortedBy
  find-listed_in into [] sorted q = refl
  find-listed_in into (e ∷ es) sorted q =
      find-listed_in (insert_entry key_cmp into e.0 e.1.serial) es sorted.1 q
      ∙ ap (option_or (serial (find es q))) (find-insert key_total e.0 e.1.serial into q)
      ∙ put_to (is_at (key_cmp e.0) q) (is_at (key_cmp q) e.0) e.1 (find es q) (find into q) ((eq_by_cmp_equiv key_total).symm e.0 q) (past key_total q e es sorted)

  both : (x g : Option (Row T)) (y : Option ℕ) → ((row : Row T) → x ≡ Some row → g ≡ None)
      → option_or (serial g) (option_or (serial x) y) ≡ option_or (serial (option_or x g)) y
  both None g y apart = refl
  both (Some row) g y apart = ap (λ o. option_or (serial o) (Some row.serial)) (apart row refl)

  find-listed_of : (into : List (RingKey × ℕ)) (i : ℕ) (bs : List (Bucket T)) → AreBuckets i bs → (q : RingKey)
      → find (listed_of into bs) q ≡ option_or (serial (find (gathered bs) q)) (find into q)
  find-listed_of into i [] are q = refl
  find-listed_of into i (b ∷ bs) are q =
      find-listed_of (listed_in into b.entries) (i + 1) bs are.1 q
      ∙ ap (option_or (serial (find (gathered bs) q))) (find-listed_in into b.entries are.0.ordered q)
      ∙ both (find b.entries q) (find (gathered bs) q) (find into q) (λ row at. let here = (are.0.own q row at).0 in find-without (i + 1) bs are.1 q (inl (omega (arith, here))))
      ∙ ap (λ o. option_or (serial o) (find into q)) (sym (find-put_all b.entries (gathered bs) q))

  sorted-listed_in : (into : List (RingKey × ℕ)) (es : List (RingKey × Row T)) → IsStrictlySortedBy key_cmp (keys_of into) → IsStrictlySortedBy key_cmp (keys_of (listed_in into es))
  sorted-listed_in into [] sorted = sorted
  sorted-listed_in into (e ∷ es) sorted = sorted-listed_in (insert_entry key_cmp into e.0 e.1.serial) es (sorted-insert key_total e.0 e.1.serial into sorted)

  sorted-listed_of : (into : List (RingKey × ℕ)) (bs : List (Bucket T)) → IsStrictlySortedBy key_cmp (keys_of into) → IsStrictlySortedBy key_cmp (keys_of (listed_of into bs))
  sorted-listed_of into [] sorted = sorted
  sorted-listed_of into (b ∷ bs) sorted = sorted-listed_of (listed_in into b.entries) bs (sorted-listed_in into b.entries sorted)

  as_rows : (x : Option (Row T)) → serial x ≡ option_map (λ h. h.serial) (option_map held_of x)
  as_rows None = refl
  as_rows (Some row) = refl

  pub listed_is : (bs : List (Bucket T)) → AreBuckets 0 bs → listed_of [] bs ≡ serials_of (rows_in bs)
  unfolding IsStrictlySortedBy
  listed_is bs are =
      same_entries key_total key_exact (listed_of [] bs) (serials_of (rows_in bs))
      (sorted-listed_of [] bs tt) (subst (IsStrictlySortedBy key_cmp) (sym (keys_of-map_values (λ (h : Held T). h.serial) (rows_in bs))) (sorted-rows bs))
      (λ q. find-listed_of [] 0 bs are q
      ∙ or_none (serial (find (gathered bs) q))
      ∙ as_rows (find (gathered bs) q)
      ∙ ap (option_map (λ h. h.serial)) (sym (find-rows bs q))
      ∙ sym (lookup-map_values (λ (h : Held T). h.serial) (is_at (key_cmp q)) (rows_in bs)))
