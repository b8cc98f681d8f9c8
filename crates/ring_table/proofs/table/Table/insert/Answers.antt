use Rattle.std.proofs.Common.{◌∙◌, refl, ap, cond, arith}
use Rattle.std.specs.Prelude.{Some}
use Rattle.std.specs.BTreeMap.{is_at, insert_entry}
use Rattle.std.proofs.lemmas.Bool.Decides.{nat_tests}
use Rattle.argo_base.specs.Match.{key_cmp}
use Rattle.ring_table.specs.declared.row.Row.{Row}
use Rattle.ring_table.specs.Rows.{held}
use Rattle.ring_table.proofs.BucketLaws.{find}
use Rattle.ring_table.proofs.TableLaws.{made_rows, made_table, rows_with, table_with, kept_rows, kept_table}
use Rattle.ring_table.proofs.table.Table.insert.Goals as goal

pub invariant_of-self-in-Err : goal.invariant_of-self-in-Err
invariant_of-self-in-Err g c =
    let i = c.bucket_of-at.result in
    let d = c.index_mut.result.now in
    let new = c.make_buckets.new.buckets.items in
    let t = made_table c.self.inside.buckets.items new c.self.inside.count c.self.invariant c.in-Ok.ensures.ok in
    kept_table new c.self.inside.count i d c.put_row.new.bucket t (c.in-Err.ensures.kept ∙ ap (λ b. b.entries) c.index_mut.ensures.value)

pub returns-in-Err-clause-kept : goal.returns-in-Err-clause-kept
returns-in-Err-clause-kept g c =
    let i = c.bucket_of-at.result in
    let d = c.index_mut.result.now in
    let new = c.make_buckets.new.buckets.items in
    kept_rows new i d c.put_row.new.bucket (c.in-Err.ensures.kept ∙ ap (λ b. b.entries) c.index_mut.ensures.value)
    ∙ made_rows c.self.inside.buckets.items new c.in-Ok.ensures.ok
    ∙ c.self.view_is

pub invariant_of-self-2 : goal.invariant_of-self-2
invariant_of-self-2 g c =
    let i = c.bucket_of-at.result in
    let d = c.index_mut.result.now in
    let old = c.self.inside.buckets.items in
    let new = c.make_buckets.new.buckets.items in
    let made = c.in-Ok.ensures.ok in
    let t = made_table old new c.self.inside.count c.self.invariant made in
    let whole = made.whole in
    let below = c.bucket_of-at.ensures.below in
    let most = c.self.invariant.most in
    let test = c.if-self-eq-MOST_ROWS.false in
    let row : Row g.row.T.Denot = record { key = c.args.key; serial = c.args.serial; value = c.args.value } in
    table_with new c.self.inside.count t c.args.key i c.bucket_of-at.ensures.which (omega (arith, whole, below)) d c.put_row.new.bucket
    row refl c.put_row.ensures.ordered
    (λ q. c.in_default-put_row.ensures.ok.0 q ∙ ap (λ b. cond (is_at (key_cmp c.args.key) q) (Some row) (find b.entries q)) c.index_mut.ensures.value)
    (ap (λ rows. find rows c.args.key) (made_rows old new made ∙ c.self.view_is) ∙ c.requires)
    (grind (arith, nat_tests))

pub returns-clause-ok : goal.returns-clause-ok
returns-clause-ok g c =
    let i = c.bucket_of-at.result in
    let d = c.index_mut.result.now in
    let old = c.self.inside.buckets.items in
    let new = c.make_buckets.new.buckets.items in
    let made = c.in-Ok.ensures.ok in
    let t = made_table old new c.self.inside.count c.self.invariant made in
    let whole = made.whole in
    let below = c.bucket_of-at.ensures.below in
    let row : Row g.row.T.Denot = record { key = c.args.key; serial = c.args.serial; value = c.args.value } in
    rows_with new c.self.inside.count t c.args.key i c.bucket_of-at.ensures.which (omega (arith, whole, below)) d c.put_row.new.bucket
    row refl c.put_row.ensures.ordered
    (λ q. c.in_default-put_row.ensures.ok.0 q ∙ ap (λ b. cond (is_at (key_cmp c.args.key) q) (Some row) (find b.entries q)) c.index_mut.ensures.value)
    ∙ ap (λ rows. insert_entry key_cmp rows c.args.key (held c.args.serial c.args.value)) (made_rows old new made ∙ c.self.view_is)
