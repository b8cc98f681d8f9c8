-- The row is among those that are left, if there is one.
use Rattle.std.proofs.Common.{◌≡◌, drop}
use Rattle.audit.specs.Names.{row_of}
use Rattle.audit.proofs.names.row_of.Given as goal

abbrev pub invariant-loop-row : goal.invariant-loop-row
invariant-loop-row g l =
    row_of g.K.Ord.cmp g.T.Named.name_of (drop l.row-index l.rows) l.name ≡ row_of g.K.Ord.cmp g.T.Named.name_of l.rows l.name
