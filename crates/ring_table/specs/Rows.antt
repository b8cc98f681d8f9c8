-- What a table holds, and what its rows are.
use Rattle.std.specs.Prelude.{ℕ, List, Option, option_map}
use Rattle.std.specs.Map.{lookup}
use Rattle.std.specs.BTreeMap.{is_at}
use Rattle.argo_base.specs.declared.ring_key.RingKey.{RingKey}
use Rattle.argo_base.specs.Match.{key_cmp}
use Rattle.ring_table.specs.declared.row.Row.{Row}

-- what stands under a key
pub record Held (T : Type 0) : Type 0 where
  pub serial : ℕ
  pub value : T

-- the most rows of a table
abbrev pub most_rows : ℕ
most_rows = 128

module _ {T : Type 0} where
  abbrev pub held : ℕ → T → Held T
  held serial value = record { serial = serial; value = value }

  -- what a row holds beside its key
  abbrev pub held_of : Row T → Held T
  held_of row = held row.serial row.value

  -- a row, as a key and what it holds
  abbrev pub entry_of : Row T → RingKey × Held T
  entry_of row = (row.key, held_of row)

  -- a key and what it holds, as a row
  abbrev pub row_of : RingKey × Held T → Row T
  row_of e = record { key = e.0; serial = e.1.serial; value = e.1.value }

  -- what stands under a key
  abbrev pub held_at : List (RingKey × Held T) → RingKey → Option (Held T)
  held_at rows key = lookup (is_at (key_cmp key)) rows

  -- the value that stands under a key
  abbrev pub value_at : List (RingKey × Held T) → RingKey → Option T
  value_at rows key = option_map (λ h. h.value) (held_at rows key)
