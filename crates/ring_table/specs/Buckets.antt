-- How the rows lie in buckets.
use Rattle.std.specs.Prelude.{◌≡◌, ℕ, ◌+◌, ◌%◌, ◌≤◌, List, [], ◌∷◌, length, map, Some, ◌⊎◌}
use Rattle.std.specs.Map.{lookup}
use Rattle.std.specs.BTreeMap.{BTreeMap, is_at, insert_entry, IsOrdered}
use Rattle.argo_base.specs.declared.ring_key.RingKey.{RingKey}
use Rattle.argo_base.specs.Match.{key_cmp}
use Rattle.ring_table.specs.declared.row.Row.{Row}
use Rattle.ring_table.specs.Rows.{Held, held_of, most_rows}

-- the bucket of a key
abbrev pub bucket_of : RingKey → ℕ
bucket_of key = (key.port + key.partner) % 8

module _ {X : Type 0} where
  -- the second entries, with the first put in at their places
  abbrev pub put_all : List (RingKey × X) → List (RingKey × X) → List (RingKey × X)
  put_all [] into = into
  put_all (e ∷ es) into = insert_entry key_cmp (put_all es into) e.0 e.1

  -- the entries of all buckets, by rising key
  abbrev pub gathered : List (BTreeMap RingKey X) → List (RingKey × X)
  gathered [] = []
  gathered (b ∷ bs) = put_all b.entries (gathered bs)

module _ {T : Type 0} where
  -- what the buckets hold
  abbrev pub rows_in : List (BTreeMap RingKey (Row T)) → List (RingKey × Held T)
  rows_in bs = map (λ e. (e.0, held_of e.1)) (gathered bs)

  -- a bucket has keys of its own alone, by rising key, and each row stands under its key
  pub record IsBucket (i : ℕ) (b : BTreeMap RingKey (Row T)) : Type 0 where
    pub ordered : IsOrdered key_cmp b
    pub own : (q : RingKey) (row : Row T) → lookup (is_at (key_cmp q)) b.entries ≡ Some row → (bucket_of q ≡ i) × (row.key ≡ q)

  -- buckets from the i-th on
  abbrev pub AreBuckets : ℕ → List (BTreeMap RingKey (Row T)) → Type 0
  AreBuckets i [] = Unit {0}
  AreBuckets i (b ∷ bs) = IsBucket i b × AreBuckets (i + 1) bs

  -- no buckets or all, and so many rows
  pub record IsTable (bs : List (BTreeMap RingKey (Row T))) (count : ℕ) : Type 0 where
    pub whole : (length bs ≡ 0) ⊎ (length bs ≡ 8)
    pub buckets : AreBuckets 0 bs
    pub counted : count ≡ length (rows_in bs)
    pub most : count ≤ most_rows

-- buckets with nothing in them
abbrev pub AreEmpty : {X : Type 0} → List (BTreeMap RingKey X) → Type 0
AreEmpty [] = Unit {0}
AreEmpty (b ∷ bs) = (b.entries ≡ []) × AreEmpty bs

-- all the buckets: the old ones, or new ones in the place of none
pub record Made {X : Type 0} (old new : List (BTreeMap RingKey X)) : Type 0 where
  pub whole : length new ≡ 8
  pub same : (new ≡ old) ⊎ ((length old ≡ 0) × AreEmpty new)
