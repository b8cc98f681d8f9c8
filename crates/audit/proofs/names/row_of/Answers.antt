use Rattle.std.specs.BTreeMap.{is_at}
use Rattle.audit.proofs.FirstLaws.{row_found, row_other}
use Rattle.audit.proofs.names.row_of.Goals as goal

pub returns-then-is_eq : goal.returns-then-is_eq
returns-then-is_eq g c =
    row_found (λ x. is_at (g.K.Ord.cmp c.args.name.now) (g.T.Named.name_of x)) c.args.rows.now c.loop-row.row-index c.row-item.result _
    c.loop-row-test.true c.row-item.is c.loop-row.invariant (cc)

pub loop-row-preserved : goal.loop-row-preserved
loop-row-preserved g c =
    row_other (λ x. is_at (g.K.Ord.cmp c.args.name.now) (g.T.Named.name_of x)) c.args.rows.now c.loop-row.row-index c.row-item.result _
    c.loop-row-test.true c.row-item.is c.loop-row.invariant (cc)
