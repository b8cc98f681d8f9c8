-- The keys of a table, each with its row's serial, and how they are gathered.
use Rattle.std.specs.Prelude.{ℕ, List, [], ◌∷◌, map}
use Rattle.std.specs.BTreeMap.{BTreeMap, insert_entry}
use Rattle.argo_base.specs.declared.ring_key.RingKey.{RingKey}
use Rattle.argo_base.specs.Match.{key_cmp}
use Rattle.ring_table.specs.declared.row.Row.{Row}
use Rattle.ring_table.specs.Rows.{Held}

module _ {T : Type 0} where
  -- each key with its row's serial
  abbrev pub serials_of : List (RingKey × Held T) → List (RingKey × ℕ)
  serials_of rows = map (λ e. (e.0, e.1.serial)) rows

  -- those of a bucket put to others
  abbrev pub listed_in : List (RingKey × ℕ) → List (RingKey × Row T) → List (RingKey × ℕ)
  listed_in into [] = into
  listed_in into (e ∷ es) = listed_in (insert_entry key_cmp into e.0 e.1.serial) es

  -- those of all buckets put to others
  abbrev pub listed_of : List (RingKey × ℕ) → List (BTreeMap RingKey (Row T)) → List (RingKey × ℕ)
  listed_of into [] = into
  listed_of into (b ∷ bs) = listed_of (listed_in into b.entries) bs
