-- Laws of a search among rows by key.
use Rattle.std.proofs.Common.{◌≡◌, ℕ, suc, ◌+◌, ◌<◌, ◌≤◌, List, [], ◌∷◌, length, Some, Result, Ok, Err, refl, ap, ◌∙◌, cond, arith}
use Rattle.std.specs.Result.{MatchResult}
use Rattle.std.specs.List.{insert, remove, slice_get, slice_index_or, slice_set}
use Rattle.std.specs.declared.cmp.Ordering.{Ordering}
use Rattle.std.specs.declared.cmp.Ordering.TheVariants.{Less, Equal, Greater}
use Rattle.std.specs.Ordering.{match_ordering, is_eq}
use Rattle.std.specs.Map.{lookup, remove_entry}
use Rattle.std.specs.BTreeMap.{is_at, insert_entry}
use Rattle.pending_list.specs.Search.{behind_first, place_of}

-- a place, so many places on
abbrev pub moved : ℕ → Result ℕ ℕ → Result ℕ ℕ
moved n (Ok i) = Ok (n + i)
moved n (Err i) = Err (n + i)

module _ {K X : Type 0} (cmp : K → K → Ordering) where
  -- a row that is found stands in the rows, and a gap among them or at their end
  pub place_below : (es : List (K × X)) (k : K) → MatchResult (place_of cmp es k) (λ i. i < length es) (λ i. i ≤ length es)
  place_below [] k = omega arith
  place_below (e ∷ es) k = by (cmp k e.0) (place_of cmp es k) (place_below es k) where
    by : (o : Ordering) (r : Result ℕ ℕ) → MatchResult r (λ i. i < length es) (λ i. i ≤ length es)
        → MatchResult (match_ordering o (Err 0) (Ok 0) (behind_first r)) (λ i. i < suc (length es)) (λ i. i ≤ suc (length es))
    by Less r h = omega arith
    by Equal r h = omega arith
    by Greater (Ok i) h = omega arith
    by Greater (Err i) h = omega arith

  -- an entry is put over the row that is found, or into the gap
  pub entry_at_place : (es : List (K × X)) (k : K) (v : X)
      → MatchResult (place_of cmp es k)
      (λ i. (e : K × X) → slice_get es i ≡ Some e → insert_entry cmp es k v ≡ slice_set es i (e.0, v))
      (λ i. insert_entry cmp es k v ≡ insert es i (k, v))
  entry_at_place [] k v = refl
  entry_at_place (e ∷ es) k v = by (cmp k e.0) (place_of cmp es k) (entry_at_place es k v) where
    by : (o : Ordering) (r : Result ℕ ℕ)
        → MatchResult r (λ i. (x : K × X) → slice_get es i ≡ Some x → insert_entry cmp es k v ≡ slice_set es i (x.0, v))
        (λ i. insert_entry cmp es k v ≡ insert es i (k, v))
        → MatchResult (match_ordering o (Err 0) (Ok 0) (behind_first r))
        (λ i. (x : K × X) → slice_get (e ∷ es) i ≡ Some x
        → match_ordering o ((k, v) ∷ e ∷ es) ((e.0, v) ∷ es) (e ∷ insert_entry cmp es k v) ≡ slice_set (e ∷ es) i (x.0, v))
        (λ i. match_ordering o ((k, v) ∷ e ∷ es) ((e.0, v) ∷ es) (e ∷ insert_entry cmp es k v) ≡ insert (e ∷ es) i (k, v))
    by Less r h = refl
    by Equal r h = λ x at. let same : e ≡ x = cc in ap (λ (y : K × X). (y.0, v) ∷ es) same
    by Greater (Ok i) h = λ x at. ap (λ ys. e ∷ ys) (h x at)
    by Greater (Err i) h = ap (λ ys. e ∷ ys) h

  -- the row that is found has the key's value
  pub lookup-found : (es : List (K × X)) (k : K) (i : ℕ) (d : K × X) → place_of cmp es k ≡ Ok i → lookup (is_at (cmp k)) es ≡ Some (slice_index_or es i d).1
  lookup-found [] k i d at = cc
  lookup-found (e ∷ es) k i d at = by (cmp k e.0) (place_of cmp es k) (λ j. lookup-found es k j d) at where
    by : (o : Ordering) (r : Result ℕ ℕ) → ((j : ℕ) → r ≡ Ok j → lookup (is_at (cmp k)) es ≡ Some (slice_index_or es j d).1)
        → match_ordering o (Err 0) (Ok 0) (behind_first r) ≡ Ok i
        → cond (is_eq o) (Some e.1) (lookup (is_at (cmp k)) es) ≡ Some (slice_index_or (e ∷ es) i d).1
    by Less r h at = cc
    by Equal r h at = let first : 0 ≡ i = cc in ap (λ j. Some (slice_index_or (e ∷ es) j d).1) first
    by Greater (Ok j) h at = let next : suc j ≡ i = cc in h j refl ∙ ap (λ m. Some (slice_index_or (e ∷ es) m d).1) next
    by Greater (Err j) h at = cc

  -- and it is the row that goes
  pub remove-found : (es : List (K × X)) (k : K) (i : ℕ) → place_of cmp es k ≡ Ok i → remove_entry (is_at (cmp k)) es ≡ remove es i
  remove-found [] k i at = cc
  remove-found (e ∷ es) k i at = by (cmp k e.0) (place_of cmp es k) (λ j. remove-found es k j) at where
    by : (o : Ordering) (r : Result ℕ ℕ) → ((j : ℕ) → r ≡ Ok j → remove_entry (is_at (cmp k)) es ≡ remove es j)
        → match_ordering o (Err 0) (Ok 0) (behind_first r) ≡ Ok i
        → cond (is_eq o) es (e ∷ remove_entry (is_at (cmp k)) es) ≡ remove (e ∷ es) i
    by Less r h at = cc
    by Equal r h at = let first : 0 ≡ i = cc in ap (remove (e ∷ es)) first
    by Greater (Ok j) h at = let next : suc j ≡ i = cc in ap (λ ys. e ∷ ys) (h j refl) ∙ ap (remove (e ∷ es)) next
    by Greater (Err j) h at = cc
