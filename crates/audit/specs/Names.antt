-- Rows that have names, on two sides.
use Rattle.std.specs.Prelude.{List, [], ◌++◌, map, fold, find, Option}
use Rattle.std.specs.declared.cmp.Ordering.{Ordering}
use Rattle.std.specs.BTreeMap.{is_at}
use Rattle.std.specs.BTreeSet.{insert_key}

module _ {A K : Type 0} (cmp : K → K → Ordering) (name : A → K) where
  -- the names that a row of either side has, rising
  abbrev pub names_of : List A → List A → List K
  names_of xs ys = fold (insert_key cmp) [] (map name (xs ++ ys))

  -- the first row of that name
  abbrev pub row_of : List A → K → Option A
  row_of xs k = find (λ x. is_at (cmp k) (name x)) xs
