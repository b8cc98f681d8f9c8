-- Laws of entries by rising key: what an edit is to a look-up, and that look-ups tell all.
use Rattle.std.proofs.Common.{◌≡◌, suc, ◌+◌, Bool, true, false, cond, true≢false, List, [], ◌∷◌, length, ⊎_elim, refl, sym, ap, ◌∙◌, arith}
use Rattle.std.specs.Prelude.{Option, Some, None}
use Rattle.std.specs.Option.{is_some, unwrap_or}
use Rattle.std.specs.declared.cmp.Ordering.{Ordering}
use Rattle.std.specs.declared.cmp.Ordering.TheVariants.{Less, Equal, Greater}
use Rattle.std.specs.Ordering.{is_eq, match_ordering, ordering_reverse}
use Rattle.std.specs.Cmp.{IsTotalOrder, eq_by_cmp_equiv, alike_right, tied_itself}
use Rattle.std.specs.List.{AllByRecursion}
use Rattle.std.specs.List.Sorted.{IsStrictlySortedBy}
use Rattle.std.specs.Map.{keys_of, lookup, remove_entry}
use Rattle.std.specs.BTreeMap.{is_at, insert_entry}
use Rattle.std.proofs.lemmas.Bool.{cases_Bool, cond_both}
use Rattle.std.proofs.lemmas.Map.{lookup-none}
use Rattle.std.proofs.lemmas.Map.Entries.{lookup_head, lookup_tail, none_past_head, none_below_head}
use Rattle.std.proofs.lemmas.Map.Keys.{sorted_tail, IsDistinct-from_sorted}
use Rattle.std.proofs.lemmas.Map.Lookups.{CmpEqualImpliesEq}

-- two choices, of which one at most is taken
swapped : {A : Type 0} (b c : Bool) (x y z : A) → (b ≡ true → c ≡ false) → cond b x (cond c y z) ≡ cond c y (cond b x z)
swapped true true x y z h = absurd (true≢false (h refl))
swapped true false x y z h = refl
swapped false c x y z h = refl

again : {A : Type 0} (b : Bool) (x y z : A) → cond b x z ≡ cond b x (cond b y z)
again true x y z = refl
again false x y z = refl

turned : {K : Type 0} {R : K → K → Ordering} (o : IsTotalOrder R) (k q : K) → is_eq (R q k) ≡ is_eq (R k q)
turned o k q = (eq_by_cmp_equiv o).symm q k

module _ {K X : Type 0} {R : K → K → Ordering} (o : IsTotalOrder R) where
  -- the value at a key
  abbrev pub find : List (K × X) → K → Option X
  find es q = lookup (is_at (R q)) es

  module _ (k : K) (v : X) where
    insert_at : (e : K × X) (es : List (K × X)) (q : K) (r : Ordering) → R k e.0 ≡ r
        → find (insert_entry R es k v) q ≡ cond (is_at (R k) q) (Some v) (find es q)
        → find (match_ordering r ((k, v) ∷ e ∷ es) ((e.0, v) ∷ es) (e ∷ insert_entry R es k v)) q ≡ cond (is_at (R k) q) (Some v) (find (e ∷ es) q)
    insert_at e es q Less p rest = ap (λ b. cond b (Some v) (find (e ∷ es) q)) (turned o k q)
    insert_at e es q Equal p rest =
        let same : is_eq (R k q) ≡ is_eq (R q e.0) = ap is_eq (o.congr k e.0 q p) ∙ turned o q e.0 in
        again (is_eq (R q e.0)) (Some v) (Some e.1) (find es q) ∙ ap (λ b. cond b (Some v) (find (e ∷ es) q)) (sym same)
    insert_at e es q Greater p rest =
        ap (cond (is_eq (R q e.0)) (Some e.1)) rest
        ∙ swapped (is_eq (R q e.0)) (is_eq (R k q)) (Some e.1) (Some v) (find es q) (λ h. ap is_eq (alike_right o q e.0 k (equal_of (R q e.0) h) ∙ p))
      where
        equal_of : (r : Ordering) → is_eq r ≡ true → r ≡ Equal
        equal_of Less h = absurd (true≢false (sym h))
        equal_of Equal h = refl
        equal_of Greater h = absurd (true≢false (sym h))

    -- after an insertion the key has the value, and the others have theirs
    pub find-insert : (es : List (K × X)) (q : K) → find (insert_entry R es k v) q ≡ cond (is_at (R k) q) (Some v) (find es q)
    find-insert [] q = ap (λ b. cond b (Some v) None) (turned o k q)
    find-insert (e ∷ es) q = insert_at e es q (R k e.0) refl (find-insert es q)

    all_at : (P : K → Type 0) (e : K × X) (es : List (K × X)) (r : Ordering) → P k → P e.0 → AllByRecursion P (keys_of es) → AllByRecursion P (keys_of (insert_entry R es k v))
        → AllByRecursion P (keys_of (match_ordering r ((k, v) ∷ e ∷ es) ((e.0, v) ∷ es) (e ∷ insert_entry R es k v)))
    all_at P e es Less p h a b = (p, (h, a))
    all_at P e es Equal p h a b = (h, a)
    all_at P e es Greater p h a b = (h, b)

    all_insert : (P : K → Type 0) (es : List (K × X)) → P k → AllByRecursion P (keys_of es) → AllByRecursion P (keys_of (insert_entry R es k v))
    all_insert P [] p a = (p, tt)
    all_insert P (e ∷ es) p a = all_at P e es (R k e.0) p a.0 a.1 (all_insert P es p a.1)

    all_under : (x : K) (ks : List K) → R k x ≡ Less → AllByRecursion (λ y. R x y ≡ Less) ks → AllByRecursion (λ y. R k y ≡ Less) ks
    all_under x [] p a = tt
    all_under x (y ∷ ks) p a = (o.trans k x y p a.0, all_under x ks p a.1)

    sorted_at : (e : K × X) (es : List (K × X)) (r : Ordering) → R k e.0 ≡ r → IsStrictlySortedBy R (keys_of (e ∷ es)) → IsStrictlySortedBy R (keys_of (insert_entry R es k v))
        → IsStrictlySortedBy R (keys_of (match_ordering r ((k, v) ∷ e ∷ es) ((e.0, v) ∷ es) (e ∷ insert_entry R es k v)))
    unfolding IsStrictlySortedBy
    sorted_at e es Less p s rest = ((p, all_under e.0 (keys_of es) p s.0), s)
    sorted_at e es Equal p s rest = s
    sorted_at e es Greater p s rest = (all_insert (λ y. R e.0 y ≡ Less) es (o.antisymm e.0 k ∙ ap ordering_reverse p) s.0, rest)

    -- the keys still rise
    pub sorted-insert : (es : List (K × X)) → IsStrictlySortedBy R (keys_of es) → IsStrictlySortedBy R (keys_of (insert_entry R es k v))
    unfolding IsStrictlySortedBy
    sorted-insert [] s = (tt, tt)
    sorted-insert (e ∷ es) s = sorted_at e es (R k e.0) refl s (sorted-insert es s.1)

    length_at : (e : K × X) (es : List (K × X)) (r : Ordering) → cond (is_eq r) (Some e.1) (find es k) ≡ None → (find es k ≡ None → length (insert_entry R es k v) ≡ suc (length es))
        → length (match_ordering r ((k, v) ∷ e ∷ es) ((e.0, v) ∷ es) (e ∷ insert_entry R es k v)) ≡ suc (suc (length es))
    length_at e es Less h rest = refl
    length_at e es Equal h rest = absurd (true≢false (ap is_some h))
    length_at e es Greater h rest = ap suc (rest h)

    -- a key that was absent makes the list longer by one
    pub length-insert : (es : List (K × X)) → find es k ≡ None → length (insert_entry R es k v) ≡ suc (length es)
    length-insert [] h = refl
    length-insert (e ∷ es) h = length_at e es (R k e.0) h (length-insert es)

  module _ (test : K → Bool) where
    all_remove : (P : K → Type 0) (es : List (K × X)) → AllByRecursion P (keys_of es) → AllByRecursion P (keys_of (remove_entry test es))
    all_remove P [] a = tt
    all_remove P (e ∷ es) a = by (test e.0) (all_remove P es a.1)
      where
        by : (b : Bool) → AllByRecursion P (keys_of (remove_entry test es)) → AllByRecursion P (keys_of (cond b es (e ∷ remove_entry test es)))
        by true rest = a.1
        by false rest = (a.0, rest)

    -- the keys still rise
    pub sorted-remove : (es : List (K × X)) → IsStrictlySortedBy R (keys_of es) → IsStrictlySortedBy R (keys_of (remove_entry test es))
    unfolding IsStrictlySortedBy
    sorted-remove [] s = tt
    sorted-remove (e ∷ es) s = cond_both (test e.0) es (e ∷ remove_entry test es) (λ xs. IsStrictlySortedBy R (keys_of xs))
        (λ _. s.1) (λ _. (all_remove (λ y. R e.0 y ≡ Less) es s.0, sorted-remove es s.1))

    -- a key that is there makes the list shorter by one
    pub length-remove : (es : List (K × X)) (v : X) → lookup test es ≡ Some v → length (remove_entry test es) + 1 ≡ length es
    length-remove [] v h = absurd (true≢false (sym (ap is_some h)))
    length-remove (e ∷ es) v h = by (test e.0) h (length-remove es v)
      where
        by : (b : Bool) → cond b (Some e.1) (lookup test es) ≡ Some v → (lookup test es ≡ Some v → length (remove_entry test es) + 1 ≡ length es)
            → length (cond b es (e ∷ remove_entry test es)) + 1 ≡ suc (length es)
        by true p rest = omega arith
        by false p rest = let r = rest p in omega (arith, r)

    -- a key that is not there leaves the list
    pub remove-absent : (es : List (K × X)) → lookup test es ≡ None → remove_entry test es ≡ es
    remove-absent [] h = refl
    remove-absent (e ∷ es) h = by (test e.0) h (remove-absent es)
      where
        by : (b : Bool) → cond b (Some e.1) (lookup test es) ≡ None → (lookup test es ≡ None → remove_entry test es ≡ es) → cond b es (e ∷ remove_entry test es) ≡ e ∷ es
        by true p rest = absurd (true≢false (ap is_some p))
        by false p rest = ap (λ xs. e ∷ xs) (rest p)

  head : (x : K × X) (xs : List (K × X)) → find (x ∷ xs) x.0 ≡ Some x.1
  head x xs = lookup_head (is_at (R x.0)) x xs (ap is_eq (tied_itself o x.0))

  below : (x y : K × X) (ys : List (K × X)) → IsStrictlySortedBy R (keys_of (y ∷ ys)) → R x.0 y.0 ≡ Less → find (y ∷ ys) x.0 ≡ None
  below x y ys t p = lookup-none (is_at (R x.0)) (y ∷ ys) (none_below_head o x.0 y ys t p)

  -- a key that is equal to the first is not among the others
  pub past : (q : K) (x : K × X) (xs : List (K × X)) → IsStrictlySortedBy R (keys_of (x ∷ xs)) → is_eq (R q x.0) ≡ true → find xs q ≡ None
  past q x xs s p = lookup-none (is_at (R q)) xs (none_past_head (eq_by_cmp_equiv o) q x xs (IsDistinct-from_sorted R _ s) p)

  tails : (x y : K × X) (xs ys : List (K × X)) → x.0 ≡ y.0 → IsStrictlySortedBy R (keys_of (x ∷ xs)) → IsStrictlySortedBy R (keys_of (y ∷ ys))
      → ((q : K) → find (x ∷ xs) q ≡ find (y ∷ ys) q) → (q : K) → find xs q ≡ find ys q
  tails x y xs ys e s t h q =
      let same : is_eq (R q y.0) ≡ is_eq (R q x.0) = ap (λ k. is_eq (R q k)) (sym e) in
      ⊎_elim
      (λ b. past q x xs s b ∙ sym (past q y ys t (same ∙ b)))
      (λ b. sym (lookup_tail (is_at (R q)) x xs b) ∙ h q ∙ lookup_tail (is_at (R q)) y ys (same ∙ b))
      (cases_Bool (is_eq (R q x.0)))

  some_not_none : (v : X) → Some v ≡ None → ⊥
  some_not_none v e = true≢false (ap is_some e)

  module _ (exact : CmpEqualImpliesEq R) where
    same_at : (x y : K × X) (xs ys : List (K × X)) (r : Ordering) → R x.0 y.0 ≡ r → IsStrictlySortedBy R (keys_of (x ∷ xs)) → IsStrictlySortedBy R (keys_of (y ∷ ys))
        → ((q : K) → find (x ∷ xs) q ≡ find (y ∷ ys) q) → (((q : K) → find xs q ≡ find ys q) → xs ≡ ys) → x ∷ xs ≡ y ∷ ys
    same_at x y xs ys Less p s t h rest = absurd (some_not_none x.1 (sym (head x xs) ∙ h x.0 ∙ below x y ys t p))
    same_at x y xs ys Greater p s t h rest =
        absurd (some_not_none y.1 (sym (head y ys) ∙ sym (h y.0) ∙ below y x xs s (o.antisymm y.0 x.0 ∙ ap ordering_reverse p)))
    same_at x y xs ys Equal p s t h rest =
        let e = exact x.0 y.0 p in
        let v : x.1 ≡ y.1 = ap (λ u. unwrap_or u x.1) (sym (head x xs) ∙ h x.0 ∙ lookup_head (is_at (R x.0)) y ys (ap is_eq p)) in
        let r = rest (tails x y xs ys e s t h) in
        λ i. (e i, v i) ∷ r i

    -- lists by rising key are equal where each key has the same value in both
    pub same_entries : (es fs : List (K × X)) → IsStrictlySortedBy R (keys_of es) → IsStrictlySortedBy R (keys_of fs) → ((q : K) → find es q ≡ find fs q) → es ≡ fs
    same_entries [] [] s t h = refl
    same_entries [] (y ∷ ys) s t h = absurd (some_not_none y.1 (sym (head y ys) ∙ sym (h y.0)))
    same_entries (x ∷ xs) [] s t h = absurd (some_not_none x.1 (sym (head x xs) ∙ h x.0))
    same_entries (x ∷ xs) (y ∷ ys) s t h =
        same_at x y xs ys (R x.0 y.0) refl s t h (same_entries xs ys (sorted_tail R x.0 (keys_of xs) s) (sorted_tail R y.0 (keys_of ys) t))
