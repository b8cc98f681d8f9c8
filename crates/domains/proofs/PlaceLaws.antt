-- Laws of the place of a domain's row.
use Rattle.std.proofs.Common.{◌≡◌, ℕ, suc, ◌+◌, ◌==◌, Bool, true, false, cond, List, [], ◌∷◌, Option, Some, None, option_map, Result, Ok, Err, refl, sym, ap, ◌∙◌, ◌⊎◌, inl, arith}
use Rattle.std.specs.List.{insert, slice_index_or, slice_set}
use Rattle.std.specs.declared.cmp.Ordering.{Ordering}
use Rattle.std.specs.declared.cmp.Ordering.TheVariants.{Less, Equal, Greater}
use Rattle.std.specs.Ordering.{match_ordering, nat_cmp}
use Rattle.std.specs.Map.{lookup, set_value}
use Rattle.std.specs.BTreeMap.{is_at, insert_entry}
use Rattle.std.proofs.lemmas.Bool.Decides.{nat_tests}
use Rattle.domains.specs.Place.{place_of, behind_first, slot_of}

-- a place, so many places on
abbrev pub moved : ℕ → Option ℕ → Option ℕ
moved n None = None
moved n (Some i) = Some (n + i)

abbrev pub moved_slot : ℕ → Result ℕ ℕ → Result ℕ ℕ
moved_slot n (Ok i) = Ok (n + i)
moved_slot n (Err i) = Err (n + i)

same_test : (d k : ℕ) (b : Bool) → (k == d) ≡ b → is_at (nat_cmp d) k ≡ b
same_test d k true h = grind (arith, nat_tests)
same_test d k false h = grind (arith, nat_tests)

-- what a lender ends as, by what it ends as for each value
pub lends_as : {N D E : Type 0} {n : N} {F G : E → D} → ((w : E) → F w ≡ G w) → ◌≡◌ {A = (N × (E → D)) ⊎ D} (inl (n, F)) (inl (n, G))
lends_as {n = n} same = λ k. inl (n, λ w. same w k)

module _ {X : Type 0} where
  -- an entry is put over the row that is found
  pub entry_over : (es : List (ℕ × X)) (d : ℕ) (v : X) (i : ℕ) (x : ℕ × X) → slot_of es d ≡ Ok i → insert_entry nat_cmp es d v ≡ slice_set es i ((slice_index_or es i x).0, v)
  entry_over [] d v i x at = cc
  entry_over (e ∷ es) d v i x at = by (nat_cmp d e.0) (slot_of es d) (λ j. entry_over es d v j x) at where
    by : (o : Ordering) (r : Result ℕ ℕ)
        → ((j : ℕ) → r ≡ Ok j → insert_entry nat_cmp es d v ≡ slice_set es j ((slice_index_or es j x).0, v))
        → match_ordering o (Err 0) (Ok 0) (behind_first r) ≡ Ok i
        → match_ordering o ((d, v) ∷ e ∷ es) ((e.0, v) ∷ es) (e ∷ insert_entry nat_cmp es d v) ≡ slice_set (e ∷ es) i ((slice_index_or (e ∷ es) i x).0, v)
    by Less r h at = cc
    by Equal r h at = let first : 0 ≡ i = cc in ap (λ j. slice_set (e ∷ es) j ((slice_index_or (e ∷ es) j x).0, v)) first
    by Greater (Ok j) h at =
        let next : suc j ≡ i = cc in
        ap (λ ys. e ∷ ys) (h j refl) ∙ ap (λ m. slice_set (e ∷ es) m ((slice_index_or (e ∷ es) m x).0, v)) next
    by Greater (Err j) h at = cc

  -- and else into the gap
  pub entry_between : (es : List (ℕ × X)) (d : ℕ) (v : X) (i : ℕ) → slot_of es d ≡ Err i → insert_entry nat_cmp es d v ≡ insert es i (d, v)
  entry_between [] d v i at = let first : 0 ≡ i = cc in ap (λ j. insert [] j (d, v)) first
  entry_between (e ∷ es) d v i at = by (nat_cmp d e.0) (slot_of es d) (λ j. entry_between es d v j) at where
    by : (o : Ordering) (r : Result ℕ ℕ) → ((j : ℕ) → r ≡ Err j → insert_entry nat_cmp es d v ≡ insert es j (d, v))
        → match_ordering o (Err 0) (Ok 0) (behind_first r) ≡ Err i
        → match_ordering o ((d, v) ∷ e ∷ es) ((e.0, v) ∷ es) (e ∷ insert_entry nat_cmp es d v) ≡ insert (e ∷ es) i (d, v)
    by Less r h at = let first : 0 ≡ i = cc in ap (λ j. insert (e ∷ es) j (d, v)) first
    by Equal r h at = cc
    by Greater (Ok j) h at = cc
    by Greater (Err j) h at = let next : suc j ≡ i = cc in ap (λ ys. e ∷ ys) (h j refl) ∙ ap (λ m. insert (e ∷ es) m (d, v)) next

  -- the row that is found has the id's value
  pub lookup-found : (es : List (ℕ × X)) (d : ℕ) (i : ℕ) (x : ℕ × X) → place_of es d ≡ Some i → lookup (is_at (nat_cmp d)) es ≡ Some (slice_index_or es i x).1
  lookup-found [] d i x at = cc
  lookup-found (e ∷ es) d i x at = by (e.0 == d) refl (place_of es d) (λ j. lookup-found es d j x) at where
    by : (b : Bool) → (e.0 == d) ≡ b → (o : Option ℕ) → ((j : ℕ) → o ≡ Some j → lookup (is_at (nat_cmp d)) es ≡ Some (slice_index_or es j x).1)
        → cond b (Some 0) (option_map suc o) ≡ Some i
        → cond (is_at (nat_cmp d) e.0) (Some e.1) (lookup (is_at (nat_cmp d)) es) ≡ Some (slice_index_or (e ∷ es) i x).1
    by true is o h at =
        let first : 0 ≡ i = cc in
        ap (λ b. cond b (Some e.1) (lookup (is_at (nat_cmp d)) es)) (same_test d e.0 true is) ∙ ap (λ j. Some (slice_index_or (e ∷ es) j x).1) first
    by false is None h at = cc
    by false is (Some j) h at =
        let next : suc j ≡ i = cc in
        ap (λ b. cond b (Some e.1) (lookup (is_at (nat_cmp d)) es)) (same_test d e.0 false is) ∙ h j refl ∙ ap (λ m. Some (slice_index_or (e ∷ es) m x).1) next

  pub lookup-absent : (es : List (ℕ × X)) (d : ℕ) → place_of es d ≡ None → lookup (is_at (nat_cmp d)) es ≡ None
  lookup-absent [] d at = refl
  lookup-absent (e ∷ es) d at = by (e.0 == d) refl (place_of es d) (lookup-absent es d) at where
    by : (b : Bool) → (e.0 == d) ≡ b → (o : Option ℕ) → (o ≡ None → lookup (is_at (nat_cmp d)) es ≡ None)
        → cond b (Some 0) (option_map suc o) ≡ None → cond (is_at (nat_cmp d) e.0) (Some e.1) (lookup (is_at (nat_cmp d)) es) ≡ None
    by true is o h at = cc
    by false is None h at = ap (λ b. cond b (Some e.1) (lookup (is_at (nat_cmp d)) es)) (same_test d e.0 false is) ∙ h refl
    by false is (Some j) h at = cc

  -- and it is the row that a value is written to
  pub set-found : (es : List (ℕ × X)) (d : ℕ) (i : ℕ) (x : ℕ × X) (w : X) → place_of es d ≡ Some i
      → slice_set es i ((slice_index_or es i x).0, w) ≡ set_value (is_at (nat_cmp d)) es w
  set-found [] d i x w at = cc
  set-found (e ∷ es) d i x w at = by (e.0 == d) refl (place_of es d) (λ j. set-found es d j x w) at where
    by : (b : Bool) → (e.0 == d) ≡ b → (o : Option ℕ)
        → ((j : ℕ) → o ≡ Some j → slice_set es j ((slice_index_or es j x).0, w) ≡ set_value (is_at (nat_cmp d)) es w)
        → cond b (Some 0) (option_map suc o) ≡ Some i
        → slice_set (e ∷ es) i ((slice_index_or (e ∷ es) i x).0, w) ≡ cond (is_at (nat_cmp d) e.0) ((e.0, w) ∷ es) (e ∷ set_value (is_at (nat_cmp d)) es w)
    by true is o h at =
        let first : i ≡ 0 = cc in
        ap (λ j. slice_set (e ∷ es) j ((slice_index_or (e ∷ es) j x).0, w)) first
        ∙ ap (λ b. cond b ((e.0, w) ∷ es) (e ∷ set_value (is_at (nat_cmp d)) es w)) (sym (same_test d e.0 true is))
    by false is None h at = cc
    by false is (Some j) h at =
        let next : i ≡ suc j = cc in
        ap (λ m. slice_set (e ∷ es) m ((slice_index_or (e ∷ es) m x).0, w)) next
        ∙ ap (λ ys. e ∷ ys) (h j refl)
        ∙ ap (λ b. cond b ((e.0, w) ∷ es) (e ∷ set_value (is_at (nat_cmp d)) es w)) (sym (same_test d e.0 false is))
