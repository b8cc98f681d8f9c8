-- Laws of going through the rows for the least serial above another.
use Rattle.std.proofs.Common.{◌≡◌, ℕ, ◌+◌, ◌<◌, ◌≤◌, Bool, true, false, cond, List, [], ◌∷◌, inl, refl, sym, ap, ◌∙◌, subst, arith, true≢false, Bor}
use Rattle.std.specs.Prelude.{Option, Some, None, nat_le}
use Rattle.std.specs.Option.{is_some, option_map, option_or, option_copied, unwrap_or, IfSome, IfNone, MatchOption}
use Rattle.std.specs.Ordering.{is_eq, ordering_reverse}
use Rattle.std.specs.declared.cmp.Ordering.TheVariants.{Less}
use Rattle.std.specs.List.{fold, AllByRecursion}
use Rattle.std.specs.List.Sorted.{IsStrictlySortedBy}
use Rattle.std.specs.Map.{keys_of, values_of}
use Rattle.std.specs.BTreeMap.{is_at, values}
use Rattle.std.proofs.lemmas.Bool.Decides.{nat_tests}
use Rattle.argo_base.specs.declared.ring_key.RingKey.{RingKey}
use Rattle.argo_base.specs.Match.{key_cmp}
use Rattle.ring_table.specs.declared.row.Row.{Row}
use Rattle.ring_table.specs.Rows.{Held, held_of}
use Rattle.ring_table.specs.Buckets.{bucket_of, gathered, rows_in, IsBucket, AreBuckets}
use Rattle.ring_table.specs.Scans.{lesser, nearer, next_in, next_of}
use Rattle.ring_table.specs.Serials.{NoneAbove, IsNext}
use Rattle.ring_table.proofs.BucketLaws.{Bucket, find, key_total, key_itself, find-rows, find-put_all, find-without, bucket_without}

pub same_some : {A : Type 0} (x y : A) → Some x ≡ Some y → x ≡ y
same_some x y e = ap (λ o. unwrap_or o x) e

not_less : (x y : RingKey) → key_cmp x y ≡ Less → is_eq (key_cmp y x) ≡ false
not_less x y h = ap is_eq (key_total.antisymm y x ∙ ap ordering_reverse h)

module _ {T : Type 0} (s : ℕ) where
  -- no serial above, or none below the best
  abbrev Bound : Option (Row T) → Row T → Type 0
  Bound None r = r.serial ≤ s
  Bound (Some b) r = s < r.serial → b.serial ≤ r.serial

  -- the best is one of those, and above
  abbrev Fine : (Row T → Type 0) → Option (Row T) → Type 0
  Fine Q best = IfSome best (λ b. Q b × (s < b.serial))

  not_above : (best : Option (Row T)) (r : Row T) → r.serial ≤ s → Bound best r
  not_above None r h = h
  not_above (Some b) r h = λ above. absurd (omega (arith, h, above))

  lesser_self : (b row : Row T) (c : Bool) → nat_le b.serial row.serial ≡ c → Bound (cond c (Some b) (Some row)) row
  lesser_self b row true e = λ _. grind (arith, nat_tests)
  lesser_self b row false e = λ _. omega arith

  self_at : (best : Option (Row T)) (row : Row T) (c : Bool) → nat_le row.serial s ≡ c → Bound (cond c best (lesser best row)) row
  self_at best row true e = not_above best row (grind (arith, nat_tests))
  self_at None row false e = λ _. omega arith
  self_at (Some b) row false e = lesser_self b row (nat_le b.serial row.serial) refl

  bound_self : (best : Option (Row T)) (row : Row T) → Bound (nearer s best row) row
  bound_self best row = self_at best row (nat_le row.serial s) refl

  lesser_keep : (b row r : Row T) (c : Bool) → nat_le b.serial row.serial ≡ c → Bound (Some b) r → Bound (cond c (Some b) (Some row)) r
  lesser_keep b row r true e h = h
  lesser_keep b row r false e h = λ above. let k = h above in grind (arith, nat_tests)

  keep_at : (best : Option (Row T)) (row r : Row T) (c : Bool) → nat_le row.serial s ≡ c → Bound best r → Bound (cond c best (lesser best row)) r
  keep_at best row r true e h = h
  keep_at None row r false e h = λ above. absurd (omega (arith, h, above))
  keep_at (Some b) row r false e h = lesser_keep b row r (nat_le b.serial row.serial) refl h

  bound_keep : (best : Option (Row T)) (row r : Row T) → Bound best r → Bound (nearer s best row) r
  bound_keep best row r h = keep_at best row r (nat_le row.serial s) refl h

  bound_fold : (rows : List (Row T)) (best : Option (Row T)) (r : Row T) → Bound best r → Bound (fold (nearer s) best rows) r
  bound_fold [] best r h = h
  bound_fold (row ∷ rows) best r h = bound_fold rows (nearer s best row) r (bound_keep best row r h)

  found_at : (e : RingKey × Row T) (es : List (RingKey × Row T)) (best : Option (Row T)) (r : Row T) (c : Bool) (x : Option (Row T)) → cond c (Some e.1) x ≡ Some r
      → (x ≡ Some r → Bound (fold (nearer s) (nearer s best e.1) (values_of es)) r) → Bound (fold (nearer s) (nearer s best e.1) (values_of es)) r
  found_at e es best r true x h rest =
      let at = bound_fold (values_of es) (nearer s best e.1) e.1 (bound_self best e.1) in
      subst (Bound (fold (nearer s) (nearer s best e.1) (values_of es))) (same_some e.1 r h) at
  found_at e es best r false x h rest = rest h

  bound_in : (es : List (RingKey × Row T)) (best : Option (Row T)) (q : RingKey) (r : Row T) → find es q ≡ Some r → Bound (fold (nearer s) best (values_of es)) r
  bound_in [] best q r h = absurd (true≢false (sym (ap is_some h)))
  bound_in (e ∷ es) best q r h = found_at e es best r (is_at (key_cmp q) e.0) (find es q) h (bound_in es (nearer s best e.1) q r)

  bound_rest : (bs : List (Bucket T)) (best : Option (Row T)) (r : Row T) → Bound best r → Bound (next_of s best bs) r
  bound_rest [] best r h = h
  bound_rest (b ∷ bs) best r h = bound_rest bs (next_in s best b) r (bound_fold (values b) best r h)

  bound_or : (b : Bucket T) (bs : List (Bucket T)) (best : Option (Row T)) (q : RingKey) (r : Row T) (x y : Option (Row T)) → x ≡ find b.entries q → option_or x y ≡ Some r
      → (y ≡ Some r → Bound (next_of s (next_in s best b) bs) r) → Bound (next_of s (next_in s best b) bs) r
  bound_or b bs best q r None y e h rest = rest h
  bound_or b bs best q r (Some x) y e h rest = bound_rest bs (next_in s best b) r (bound_in b.entries best q r (sym e ∙ h))

  bound_all : (bs : List (Bucket T)) (best : Option (Row T)) (q : RingKey) (r : Row T) → find (gathered bs) q ≡ Some r → Bound (next_of s best bs) r
  bound_all [] best q r h = absurd (true≢false (sym (ap is_some h)))
  bound_all (b ∷ bs) best q r h =
      bound_or b bs best q r (find b.entries q) (find (gathered bs) q) refl (sym (find-put_all b.entries (gathered bs) q) ∙ h) (bound_all bs (next_in s best b) q r)

  module _ (Q : Row T → Type 0) where
    lesser_fine : (b row : Row T) (c : Bool) → s < row.serial → Fine Q (Some b) → Q row → Fine Q (cond c (Some b) (Some row))
    lesser_fine b row true above h k = h
    lesser_fine b row false above h k = (k, above)

    fine_at : (best : Option (Row T)) (row : Row T) (c : Bool) → nat_le row.serial s ≡ c → Fine Q best → Q row → Fine Q (cond c best (lesser best row))
    fine_at best row true e h k = h
    fine_at None row false e h k = (k, grind (arith, nat_tests))
    fine_at (Some b) row false e h k = lesser_fine b row (nat_le b.serial row.serial) (grind (arith, nat_tests)) h k

    fine_fold : (rows : List (Row T)) (best : Option (Row T)) → Fine Q best → AllByRecursion Q rows → Fine Q (fold (nearer s) best rows)
    fine_fold [] best h all = h
    fine_fold (row ∷ rows) best h all = fine_fold rows (nearer s best row) (fine_at best row (nat_le row.serial s) refl h all.0) all.1

    abbrev pub AllRows : List (Bucket T) → Type 0
    AllRows [] = Unit {0}
    AllRows (b ∷ bs) = AllByRecursion Q (values b) × AllRows bs

    fine_all : (bs : List (Bucket T)) (best : Option (Row T)) → Fine Q best → AllRows bs → Fine Q (next_of s best bs)
    fine_all [] best h all = h
    fine_all (b ∷ bs) best h all = fine_all bs (next_in s best b) (fine_fold (values b) best h all.0) all.1

-- ---- each row is found under its key

module _ {T : Type 0} where
  found_past : (e : RingKey × Row T) (all es : List (RingKey × Row T)) → AllByRecursion (λ k. key_cmp e.0 k ≡ Less) (keys_of es)
      → AllByRecursion (λ x. find all x.0 ≡ Some x.1) es → AllByRecursion (λ x. find (e ∷ all) x.0 ≡ Some x.1) es
  found_past e all [] less h = tt
  found_past e all (x ∷ es) less h =
      (ap (λ c. cond c (Some e.1) (find all x.0)) (not_less e.0 x.0 less.0) ∙ h.0, found_past e all es less.1 h.1)

  each_found : (es : List (RingKey × Row T)) → IsStrictlySortedBy key_cmp (keys_of es) → AllByRecursion (λ x. find es x.0 ≡ Some x.1) es
  unfolding IsStrictlySortedBy
  each_found [] sorted = tt
  each_found (e ∷ es) sorted =
      (ap (λ c. cond c (Some e.1) (find es e.0)) (key_itself e.0), found_past e es es sorted.0 (each_found es sorted.1))

  -- a fact of each entry that is found, as one of each value
  by_entry : (P : RingKey × Row T → Type 0) (Q : Row T → Type 0) (es : List (RingKey × Row T)) → ((x : RingKey × Row T) → P x → Q x.1) → AllByRecursion P es → AllByRecursion Q (values_of es)
  by_entry P Q [] f h = tt
  by_entry P Q (e ∷ es) f h = (f e h.0, by_entry P Q es f h.1)

  more_rows : (P Q : Row T → Type 0) (rows : List (Row T)) → ((r : Row T) → P r → Q r) → AllByRecursion P rows → AllByRecursion Q rows
  more_rows P Q [] f h = tt
  more_rows P Q (r ∷ rows) f h = (f r h.0, more_rows P Q rows f h.1)

  more_buckets : (s : ℕ) (P Q : Row T → Type 0) (bs : List (Bucket T)) → ((r : Row T) → P r → Q r) → AllRows s P bs → AllRows s Q bs
  more_buckets s P Q [] f h = tt
  more_buckets s P Q (b ∷ bs) f h = (more_rows P Q (values b) f h.0, more_buckets s P Q bs f h.1)

  -- what stands in later buckets has a key of those
  later : (i : ℕ) (bs : List (Bucket T)) → AreBuckets (i + 1) bs → (r : Row T) → find (gathered bs) r.key ≡ Some r → bucket_of r.key ≡ i → ⊥
  later i bs are r h e = true≢false (sym (ap is_some h) ∙ ap is_some (find-without (i + 1) bs are r.key (inl (omega (arith, e)))))

  own_found : (b : Bucket T) (i : ℕ) (bs : List (Bucket T)) → IsBucket i b → (x : RingKey × Row T) → find b.entries x.0 ≡ Some x.1 → find (gathered (b ∷ bs)) x.1.key ≡ Some x.1
  own_found b i bs is x h =
      let key = (is.own x.0 x.1 h).1 in
      ap (find (gathered (b ∷ bs))) key ∙ find-put_all b.entries (gathered bs) x.0 ∙ ap (λ o. option_or o (find (gathered bs) x.0)) h

  later_found : (b : Bucket T) (i : ℕ) (bs : List (Bucket T)) → IsBucket i b → AreBuckets (i + 1) bs → (r : Row T) → find (gathered bs) r.key ≡ Some r
      → find (gathered (b ∷ bs)) r.key ≡ Some r
  later_found b i bs is are r h =
      find-put_all b.entries (gathered bs) r.key
      ∙ ap (λ o. option_or o (find (gathered bs) r.key)) (bucket_without i b is r.key (later i bs are r h))
      ∙ h

  pub each_row : (s i : ℕ) (bs : List (Bucket T)) → AreBuckets i bs → AllRows s (λ r. find (gathered bs) r.key ≡ Some r) bs
  each_row s i [] are = tt
  each_row s i (b ∷ bs) are = (
    by_entry (λ x. find b.entries x.0 ≡ Some x.1) (λ r. find (gathered (b ∷ bs)) r.key ≡ Some r) b.entries (own_found b i bs are.0) (each_found b.entries are.0.ordered),
    more_buckets s (λ r. find (gathered bs) r.key ≡ Some r) (λ r. find (gathered (b ∷ bs)) r.key ≡ Some r) bs (later_found b i bs are.0 are.1) (each_row s (i + 1) bs are.1),
  )

  -- ---- what the scan finds

  as_held : (P : ℕ → Type 0) (x : Option (Row T)) (h : Held T) → option_map held_of x ≡ Some h → ((r : Row T) → x ≡ Some r → P r.serial) → P h.serial
  as_held P None h e f = absurd (true≢false (sym (ap is_some e)))
  as_held P (Some r) h e f = subst P (ap (λ o. (unwrap_or o (held_of r)).serial) e) (f r refl)

  after_at : (s : ℕ) (bs : List (Bucket T)) (out : Option (Row T)) → ((q : RingKey) (r : Row T) → find (gathered bs) q ≡ Some r → Bound s out r)
      → Fine s (λ r. find (gathered bs) r.key ≡ Some r) out → MatchOption out (NoneAbove (rows_in bs) s) (IsNext (rows_in bs) s)
  after_at s bs None bound fine = λ key h e. as_held (λ n. n ≤ s) (find (gathered bs) key) h (sym (find-rows bs key) ∙ e) (bound key)
  after_at s bs (Some b) bound fine = record {
    stands = find-rows bs b.key ∙ ap (option_map held_of) fine.0;
    above = fine.1;
    least = λ key h e. as_held (λ n. s < n → b.serial ≤ n) (find (gathered bs) key) h (sym (find-rows bs key) ∙ e) (bound key);
  }

  pub after_is : (s : ℕ) (bs : List (Bucket T)) → AreBuckets 0 bs → MatchOption (next_of s None bs) (NoneAbove (rows_in bs) s) (IsNext (rows_in bs) s)
  after_is s bs are = after_at s bs (next_of s None bs) (bound_all s bs None) (fine_all s (λ r. find (gathered bs) r.key ≡ Some r) bs None tt (each_row s 0 bs are))

-- what is said of a copy is said of what the reference points to
pub some_of_copy : {A : Type 0} (N : Type 0) (P : A → Type 0) (o : Option (Bor A)) → MatchOption (option_copied o) N P → IfSome o (λ r. P r.now)
some_of_copy N P None h = tt
some_of_copy N P (Some r) h = h

pub none_of_copy : {A : Type 0} (N : Type 0) (P : A → Type 0) (o : Option (Bor A)) → MatchOption (option_copied o) N P → IfNone o N
none_of_copy N P None h = h
none_of_copy N P (Some r) h = tt
