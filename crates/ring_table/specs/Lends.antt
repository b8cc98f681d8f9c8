-- What a table ends as, where a `&mut` to one of its values is returned.
use Rattle.std.specs.Prelude.{List, Option}
use Rattle.std.specs.Borrow.{LendsIf, Fml, RattleType, MutBor}
use Rattle.argo_base.specs.declared.ring_key.RingKey.{RingKey}
use Rattle.ring_table.specs.Rows.{Held}
use Rattle.ring_table.specs.Edits.{with_value}
use Rattle.ring_table.specs.contracts.table.Table.{the_row}

module _ (T : RattleType) (s : MutBor (List (RingKey × Held T.Denot))) where
  -- once the borrow ends, the key has the last value written; at `None` the table stays as it is
  abbrev pub lends_value : RingKey → Option (MutBor T.Denot) → Fml
  lends_value key r = LendsIf (the_row T) T s r (with_value s.now key) s.now
