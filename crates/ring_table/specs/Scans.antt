-- How the rows are gone through for the least serial above another, and for the least key.
use Rattle.std.specs.Prelude.{ℕ, nat_le, if◌then◌else◌, List, [], ◌∷◌, Option, Some, None}
use Rattle.std.specs.List.{fold}
use Rattle.std.specs.Ordering.{is_gt}
use Rattle.std.specs.BTreeMap.{BTreeMap, values}
use Rattle.argo_base.specs.declared.ring_key.RingKey.{RingKey}
use Rattle.argo_base.specs.Match.{key_cmp}
use Rattle.ring_table.specs.declared.row.Row.{Row}

module _ {T : Type 0} where
  -- the row with the less serial, and the earlier of two with the same
  abbrev pub lesser : Option (Row T) → Row T → Option (Row T)
  lesser None row = Some row
  lesser (Some best) row = if nat_le best.serial row.serial then Some best else Some row

  -- the best row so far, and a row which counts where its serial is above
  abbrev pub nearer : ℕ → Option (Row T) → Row T → Option (Row T)
  nearer serial best row = if nat_le row.serial serial then best else lesser best row

  -- the best of those so far and of a bucket
  abbrev pub next_in : ℕ → Option (Row T) → BTreeMap RingKey (Row T) → Option (Row T)
  next_in serial best bucket = fold (nearer serial) best (values bucket)

  -- the best of those so far and of all buckets
  abbrev pub next_of : ℕ → Option (Row T) → List (BTreeMap RingKey (Row T)) → Option (Row T)
  next_of serial best buckets = fold (next_in serial) best buckets

  -- the row with the less key
  abbrev pub lower : Option (Row T) → Row T → Option (Row T)
  lower None row = Some row
  lower (Some best) row = if is_gt (key_cmp best.key row.key) then Some row else Some best

  -- the best so far, and the first of a bucket's rows
  abbrev pub lower_first : Option (Row T) → List (RingKey × Row T) → Option (Row T)
  lower_first best [] = best
  lower_first best (e ∷ es) = lower best e.1

  abbrev pub first_in : Option (Row T) → BTreeMap RingKey (Row T) → Option (Row T)
  first_in best bucket = lower_first best bucket.entries

  -- the best of those so far and of all buckets
  abbrev pub first_of : Option (Row T) → List (BTreeMap RingKey (Row T)) → Option (Row T)
  first_of best buckets = fold first_in best buckets
