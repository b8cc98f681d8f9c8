-- The names of the rows that are left are still to be put in.
use Rattle.std.proofs.Common.{◌≡◌, drop, fold, map}
use Rattle.std.specs.BTreeSet.{insert_key}
use Rattle.audit.proofs.names.add_names.Given as goal

abbrev pub invariant-loop-row : goal.invariant-loop-row
invariant-loop-row g l =
    fold (insert_key g.K.Ord.cmp) l.names.keys (map g.T.Named.name_of (drop l.row-index l.rows))
    ≡ fold (insert_key g.K.Ord.cmp) l.initial.names.keys (map g.T.Named.name_of l.rows)
