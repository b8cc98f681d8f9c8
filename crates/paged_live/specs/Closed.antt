-- A ring as it stands, with all that it holds.
use Rattle.std.specs.Prelude.{ℕ, List, Option, option_map, filter_map}
use Rattle.argo_base.specs.declared.ring_key.RingKey.{RingKey}
use Rattle.argo_model.specs.declared.closed.ClosedRing.{ClosedRing}
use Rattle.argo_model.specs.Runs.Closed.{closed_ring}
use Rattle.ring_core.specs.Held.{Held}
use Rattle.ring_table.specs.declared.row.Row.{Row as TableRow}
use Rattle.ring_table.specs.Rows.{Held as Row, entry_of, held_at}
use Rattle.paged_live.specs.Parts.{Rows, ring_of}

-- a ring under a key
abbrev pub closed_of : RingKey × Row Held → ClosedRing
closed_of e = closed_ring (e.0, ring_of e.1)

-- a row of the table
abbrev pub closed_row : TableRow Held → ClosedRing
closed_row row = closed_of (entry_of row)

-- those of keys that the table has
abbrev pub closed_at : Rows → RingKey × ℕ → Option ClosedRing
closed_at rows e = option_map (λ h. closed_of (e.0, h)) (held_at rows e.0)

abbrev pub closed_all : Rows → List (RingKey × ℕ) → List ClosedRing
closed_all rows es = filter_map (closed_at rows) es
