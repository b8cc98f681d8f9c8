-- The rows by their serials.
use Rattle.std.specs.Prelude.{◌≡◌, ℕ, ◌<◌, ◌≤◌, List, Some}
use Rattle.argo_base.specs.declared.ring_key.RingKey.{RingKey}
use Rattle.ring_table.specs.declared.row.Row.{Row}
use Rattle.ring_table.specs.Rows.{Held, held_of, held_at}

module _ {T : Type 0} where
  -- no serial is above
  abbrev pub NoneAbove : List (RingKey × Held T) → ℕ → Type 0
  NoneAbove rows serial = (key : RingKey) (h : Held T) → held_at rows key ≡ Some h → h.serial ≤ serial

  -- the row stands in the table, its serial is above, and no serial above is less
  pub record IsNext (rows : List (RingKey × Held T)) (serial : ℕ) (row : Row T) : Type 0 where
    pub stands : held_at rows row.key ≡ Some (held_of row)
    pub above : serial < row.serial
    pub least : (key : RingKey) (h : Held T) → held_at rows key ≡ Some h → serial < h.serial → row.serial ≤ h.serial
