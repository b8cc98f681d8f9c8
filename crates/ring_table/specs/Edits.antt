-- What the rows are after an edit.
use Rattle.std.specs.Prelude.{ℕ, Bool, true, false, List, option_map, Result, Ok, Err}
use Rattle.std.specs.Option.{unwrap_or}
use Rattle.std.specs.Map.{remove_entry, set_value}
use Rattle.std.specs.BTreeMap.{insert_entry, is_at}
use Rattle.argo_base.specs.declared.ring_key.RingKey.{RingKey}
use Rattle.argo_base.specs.Match.{key_cmp}
use Rattle.ring_table.specs.declared.fault.InsertFault.{InsertFault}
use Rattle.ring_table.specs.declared.fault.InsertFault.TheVariants.{Full, NoMemory}
use Rattle.ring_table.specs.Rows.{Held, held, held_at}

module _ {T : Type 0} where
  -- the rows with a row more
  abbrev pub with_row : List (RingKey × Held T) → RingKey → ℕ → T → List (RingKey × Held T)
  with_row rows key serial value = insert_entry key_cmp rows key (held serial value)

  -- the rows without a key's row
  abbrev pub without_row : List (RingKey × Held T) → RingKey → List (RingKey × Held T)
  without_row rows key = remove_entry (is_at (key_cmp key)) rows

  -- the rows with another value at a key, whose serial stays
  abbrev pub with_value : List (RingKey × Held T) → RingKey → T → List (RingKey × Held T)
  with_value rows key value = set_value (is_at (key_cmp key)) rows (held (unwrap_or (option_map (λ h. h.serial) (held_at rows key)) 0) value)

  -- the value that comes back
  abbrev pub given_back : InsertFault T → T
  given_back (Full value) = value
  given_back (NoMemory value) = value

  -- whether a row was refused because the table is full
  abbrev pub is_full : {A : Type 0} → Result A (InsertFault T) → Bool
  is_full (Ok _) = false
  is_full (Err (Full _)) = true
  is_full (Err (NoMemory _)) = false
