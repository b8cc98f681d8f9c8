use Rattle.std.proofs.Common.{ap, sym, ◌∙◌, option_map, cond}
use Rattle.std.specs.Prelude.{None}
use Rattle.std.specs.Map.{remove_entry}
use Rattle.std.specs.BTreeMap.{is_at}
use Rattle.argo_base.specs.Match.{key_cmp}
use Rattle.ring_table.specs.Rows.{held_of, held_at}
use Rattle.ring_table.proofs.BucketLaws.{find, held_in}
use Rattle.ring_table.proofs.TableLaws.{rows_without, table_without, table_same}
use Rattle.ring_table.proofs.table.Table.remove.Goals as goal

pub invariant_of-self-in_default-remove : goal.invariant_of-self-in_default-remove
invariant_of-self-in_default-remove g c =
    let i = c.bucket_of.result in
    let d = c.in-Some.bucket.now in
    let is = c.in-Some.ensures.item.3 in
    table_same c.self.inside.buckets.items c.self.inside.count c.self.invariant c.args.key i c.bucket_of.ensures.which is.0 d c.remove.new.self
    (λ q. c.remove.ensures.updates.0 q ∙ ap (λ b. cond (is_at (key_cmp c.args.key) q) None (find b.entries q)) (is.1 d)) c.remove.ensures.ordered
    (ap (λ b. find b.entries c.args.key) (sym (is.1 d)) ∙ sym c.in_default-remove.ensures.value)

pub returns-in_default-remove-clause-value : goal.returns-in_default-remove-clause-value
returns-in_default-remove-clause-value g c =
    let i = c.bucket_of.result in
    let d = c.in-Some.bucket.now in
    let is = c.in-Some.ensures.item.3 in
    sym (ap (λ rows. option_map (λ h. h.value) (held_at rows c.args.key)) (sym c.self.view_is)
    ∙ ap (option_map (λ h. h.value)) (held_in c.self.inside.buckets.items c.self.invariant.buckets c.args.key i d c.bucket_of.ensures.which is.0
    ∙ ap (λ b. option_map held_of (find b.entries c.args.key)) (sym (is.1 d))
    ∙ ap (option_map held_of) (sym c.in_default-remove.ensures.value)))

pub returns-in_default-remove-clause-rest : goal.returns-in_default-remove-clause-rest
returns-in_default-remove-clause-rest g c =
    let i = c.bucket_of.result in
    let d = c.in-Some.bucket.now in
    let is = c.in-Some.ensures.item.3 in
    rows_without c.self.inside.buckets.items c.self.inside.count c.self.invariant c.args.key i c.bucket_of.ensures.which is.0 d c.remove.new.self
    (λ q. c.remove.ensures.updates.0 q ∙ ap (λ b. cond (is_at (key_cmp c.args.key) q) None (find b.entries q)) (is.1 d)) c.remove.ensures.ordered
    ∙ ap (remove_entry (is_at (key_cmp c.args.key))) c.self.view_is

pub overflow_sub-self : goal.overflow_sub-self
overflow_sub-self g c =
    let i = c.bucket_of.result in
    let d = c.in-Some.bucket.now in
    let is = c.in-Some.ensures.item.3 in
    (table_without c.self.inside.buckets.items c.self.inside.count c.self.invariant c.args.key i c.bucket_of.ensures.which is.0 d c.remove.new.self
    (λ q. c.remove.ensures.updates.0 q ∙ ap (λ b. cond (is_at (key_cmp c.args.key) q) None (find b.entries q)) (is.1 d)) c.remove.ensures.ordered
    c.in-Some-remove.row (ap (λ b. find b.entries c.args.key) (sym (is.1 d)) ∙ sym c.in-Some-remove.ensures.value)).0

pub invariant_of-self-2 : goal.invariant_of-self-2
invariant_of-self-2 g c =
    let i = c.bucket_of.result in
    let d = c.in-Some.bucket.now in
    let is = c.in-Some.ensures.item.3 in
    (table_without c.self.inside.buckets.items c.self.inside.count c.self.invariant c.args.key i c.bucket_of.ensures.which is.0 d c.remove.new.self
    (λ q. c.remove.ensures.updates.0 q ∙ ap (λ b. cond (is_at (key_cmp c.args.key) q) None (find b.entries q)) (is.1 d)) c.remove.ensures.ordered
    c.in-Some-remove.row (ap (λ b. find b.entries c.args.key) (sym (is.1 d)) ∙ sym c.in-Some-remove.ensures.value)).1

pub returns-clause-value : goal.returns-clause-value
returns-clause-value g c =
    let i = c.bucket_of.result in
    let d = c.in-Some.bucket.now in
    let is = c.in-Some.ensures.item.3 in
    sym (ap (λ rows. option_map (λ h. h.value) (held_at rows c.args.key)) (sym c.self.view_is)
    ∙ ap (option_map (λ h. h.value)) (held_in c.self.inside.buckets.items c.self.invariant.buckets c.args.key i d c.bucket_of.ensures.which is.0
    ∙ ap (λ b. option_map held_of (find b.entries c.args.key)) (sym (is.1 d))
    ∙ ap (option_map held_of) (sym c.in-Some-remove.ensures.value)))

pub returns-clause-rest : goal.returns-clause-rest
returns-clause-rest g c =
    let i = c.bucket_of.result in
    let d = c.in-Some.bucket.now in
    let is = c.in-Some.ensures.item.3 in
    rows_without c.self.inside.buckets.items c.self.inside.count c.self.invariant c.args.key i c.bucket_of.ensures.which is.0 d c.remove.new.self
    (λ q. c.remove.ensures.updates.0 q ∙ ap (λ b. cond (is_at (key_cmp c.args.key) q) None (find b.entries q)) (is.1 d)) c.remove.ensures.ordered
    ∙ ap (remove_entry (is_at (key_cmp c.args.key))) c.self.view_is
