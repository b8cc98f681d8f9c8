-- Laws of rows by rising key.
use Rattle.std.proofs.Common.{◌≡◌, ℕ, zero, suc, ◌+◌, ◌<◌, ◌≤◌, Bool, true, false, cond, List, [], ◌∷◌, length, map, filter, Some, None, Result, Ok, Err, refl, sym, ap, subst, arith}
use Rattle.std.specs.Prelude.{IsTrue}
use Rattle.std.specs.List.{slice_index}
use Rattle.std.specs.List.Sorted.{IsStrictlyIncreasing}
use Rattle.std.specs.declared.cmp.Ordering.{Ordering}
use Rattle.std.specs.declared.cmp.Ordering.TheVariants.{Less, Equal, Greater}
use Rattle.std.specs.Ordering.{match_ordering, is_eq, nat_cmp, MatchOrdering}
use Rattle.std.specs.Map.{lookup, remove_entry}
use Rattle.std.specs.BTreeMap.{is_at, insert_entry}
use Rattle.std.proofs.lemmas.Cmp.{ranked}
use Rattle.std.proofs.lemmas.Bool.Decides.{nat_tests}
use Rattle.pending_list.specs.Search.{behind_first, place_of, rises_from}

module _ {X : Type 0} where
  -- the first key is not below the number, and the others rise from the next one on
  pub record Rises (low : ℕ) (e : ℕ × X) (es : List (ℕ × X)) : Type 0 where
    pub first : low ≤ e.0
    pub rest : IsTrue (rises_from (e.0 + 1) es)

  rises : (low : ℕ) (e : ℕ × X) (es : List (ℕ × X)) → IsTrue (rises_from low (e ∷ es)) → Rises low e es
  rises low e es test = record { first = grind (arith, nat_tests); rest = grind (arith, nat_tests) }

  rises_first : (low : ℕ) (e : ℕ × X) (es : List (ℕ × X)) → low ≤ e.0 → IsTrue (rises_from (e.0 + 1) es) → IsTrue (rises_from low (e ∷ es))
  rises_first low e es first rest = grind (arith, nat_tests)

  -- from a lesser number on they rise too
  pub rises_lower : (low high : ℕ) (es : List (ℕ × X)) → low ≤ high → IsTrue (rises_from high es) → IsTrue (rises_from low es)
  rises_lower low high [] le test = test
  rises_lower low high (e ∷ es) le test = let r = rises high e es test in let f = r.first in rises_first low e es (omega arith) r.rest

  -- without some rows they rise
  pub rises_filter : (p : ℕ × X → Bool) (low : ℕ) (es : List (ℕ × X)) → IsTrue (rises_from low es) → IsTrue (rises_from low (filter p es))
  rises_filter p low [] test = test
  rises_filter p low (e ∷ es) test = let r = rises low e es test in let f = r.first in by (p e) (rises_filter p (e.0 + 1) es r.rest) where
    by : (kept : Bool) → IsTrue (rises_from (e.0 + 1) (filter p es)) → IsTrue (rises_from low (cond kept (e ∷ filter p es) (filter p es)))
    by true rest = rises_first low e (filter p es) (rises low e es test).first rest
    by false rest = let f = (rises low e es test).first in rises_lower low (e.0 + 1) (filter p es) (omega arith) rest

  pub rises_remove : (t : ℕ → Bool) (low : ℕ) (es : List (ℕ × X)) → IsTrue (rises_from low es) → IsTrue (rises_from low (remove_entry t es))
  rises_remove t low [] test = test
  rises_remove t low (e ∷ es) test = by (t e.0) (rises low e es test) (rises_remove t (e.0 + 1) es (rises low e es test).rest) where
    by : (gone : Bool) → Rises low e es → IsTrue (rises_from (e.0 + 1) (remove_entry t es)) → IsTrue (rises_from low (cond gone es (e ∷ remove_entry t es)))
    by true r rest = let f = r.first in rises_lower low (e.0 + 1) es (omega arith) r.rest
    by false r rest = rises_first low e (remove_entry t es) r.first rest

  -- with an entry they rise
  pub rises_insert : (low : ℕ) (es : List (ℕ × X)) (k : ℕ) (v : X) → low ≤ k → IsTrue (rises_from low es) → IsTrue (rises_from low (insert_entry nat_cmp es k v))
  rises_insert low [] k v above test = rises_first low (k, v) [] above test
  rises_insert low (e ∷ es) k v above test =
      by (nat_cmp k e.0) (ranked k e.0 (nat_cmp k e.0) refl) (rises low e es test) (λ past. rises_insert (e.0 + 1) es k v past (rises low e es test).rest) where
        by : (o : Ordering) → MatchOrdering o (k < e.0) (k ≡ e.0) (e.0 < k) → Rises low e es
            → (e.0 + 1 ≤ k → IsTrue (rises_from (e.0 + 1) (insert_entry nat_cmp es k v)))
            → IsTrue (rises_from low (match_ordering o ((k, v) ∷ e ∷ es) ((e.0, v) ∷ es) (e ∷ insert_entry nat_cmp es k v)))
        by Less less r rest = rises_first low (k, v) (e ∷ es) above (rises_first (k + 1) e es (omega arith) r.rest)
        by Equal same r rest = rises_first low (e.0, v) es r.first r.rest
        by Greater past r rest = rises_first low e (insert_entry nat_cmp es k v) r.first (rest (omega arith))

  -- below all keys nothing stands
  lookup-below : (low : ℕ) (es : List (ℕ × X)) (k : ℕ) → k < low → IsTrue (rises_from low es) → lookup (is_at (nat_cmp k)) es ≡ None
  lookup-below low [] k below test = refl
  lookup-below low (e ∷ es) k below test =
      by (nat_cmp k e.0) (ranked k e.0 (nat_cmp k e.0) refl) (rises low e es test) (λ past. lookup-below (e.0 + 1) es k past (rises low e es test).rest) where
        by : (o : Ordering) → MatchOrdering o (k < e.0) (k ≡ e.0) (e.0 < k) → Rises low e es
            → (k < e.0 + 1 → lookup (is_at (nat_cmp k)) es ≡ None) → cond (is_eq o) (Some e.1) (lookup (is_at (nat_cmp k)) es) ≡ None
        by Less less r rest = rest (omega arith)
        by Equal same r rest = let f = r.first in absurd (omega arith)
        by Greater past r rest = let f = r.first in absurd (omega arith)

  -- where the search ends in a gap the key has no value
  pub lookup-absent : (low : ℕ) (es : List (ℕ × X)) (k i : ℕ) → IsTrue (rises_from low es) → place_of nat_cmp es k ≡ Err i → lookup (is_at (nat_cmp k)) es ≡ None
  lookup-absent low [] k i test at = refl
  lookup-absent low (e ∷ es) k i test at =
      by (nat_cmp k e.0) (ranked k e.0 (nat_cmp k e.0) refl) (rises low e es test) (place_of nat_cmp es k)
      (λ j gap. lookup-absent (e.0 + 1) es k j (rises low e es test).rest gap) at where
        by : (o : Ordering) → MatchOrdering o (k < e.0) (k ≡ e.0) (e.0 < k) → Rises low e es
            → (r : Result ℕ ℕ) → ((j : ℕ) → r ≡ Err j → lookup (is_at (nat_cmp k)) es ≡ None)
            → match_ordering o (Err 0) (Ok 0) (behind_first r) ≡ Err i
            → cond (is_eq o) (Some e.1) (lookup (is_at (nat_cmp k)) es) ≡ None
        by Less less r f h at = lookup-below (e.0 + 1) es k (omega arith) r.rest
        by Equal same r f h at = cc
        by Greater past r (Ok j) h at = cc
        by Greater past r (Err j) h at = h j refl

  -- and no row goes
  pub remove-absent : (t : ℕ → Bool) (es : List (ℕ × X)) → lookup t es ≡ None → remove_entry t es ≡ es
  remove-absent t [] none = refl
  remove-absent t (e ∷ es) none = by (t e.0) (remove-absent t es) none where
    by : (here : Bool) → (lookup t es ≡ None → remove_entry t es ≡ es) → cond here (Some e.1) (lookup t es) ≡ None → cond here es (e ∷ remove_entry t es) ≡ e ∷ es
    by true h none = cc
    by false h none = ap (λ ys. e ∷ ys) (h none)

  -- the keys increase
  pub keys_increase : (low : ℕ) (es : List (ℕ × X)) → IsTrue (rises_from low es) → IsStrictlyIncreasing (map (λ e. e.0) es)
  keys_increase low [] test k in_range = absurd (omega arith)
  keys_increase low (e ∷ []) test k in_range = absurd (omega arith)
  keys_increase low (e ∷ x ∷ es) test zero in_range = let r = (rises (e.0 + 1) x es (rises low e (x ∷ es) test).rest).first in omega arith
  keys_increase low (e ∷ x ∷ es) test (suc k) in_range =
      let more : k + 1 < length (map (λ (y : ℕ × X). y.0) (x ∷ es)) = omega arith in
      let next : suc k + 1 ≡ suc (k + 1) = omega arith in
      subst (λ m. slice_index (map (λ (y : ℕ × X). y.0) (e ∷ x ∷ es)) (suc k) < slice_index (map (λ (y : ℕ × X). y.0) (e ∷ x ∷ es)) m) (sym next)
      (keys_increase (e.0 + 1) (x ∷ es) (rises low e (x ∷ es) test).rest k more)
