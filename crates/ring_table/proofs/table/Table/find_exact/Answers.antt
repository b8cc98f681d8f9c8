use Rattle.std.proofs.Common.{◌≡◌, ap, ◌∙◌, ◌<◌, length, subst, slice_index_or, option_map}
use Rattle.std.specs.Option.{option_copied}
use Rattle.argo_base.specs.Match.{at_key}
use Rattle.ring_table.specs.Rows.{row_of}
use Rattle.ring_table.proofs.BucketLaws.{found, find, absent_from}
use Rattle.ring_table.proofs.table.Table.find_exact.Goals as goal

pub returns : goal.returns
returns g c =
    let i = c.bucket_of.result in
    let d = c.in-Some.bucket.now in
    let is = c.in-Some.ensures.lookup.3 in
    let v = c.deref.ensures.value in
    let value : option_copied c.get-2.result ≡ option_map row_of (at_key c.args.self.now c.args.key) =
    c.get-2.ensures.value
    ∙ ap (λ b. find b.entries c.args.key) (is.1 d ∙ ap (λ bs. slice_index_or bs i d) v)
    ∙ found c.self.inside.buckets.items c.self.invariant.buckets c.args.key i d c.bucket_of.ensures.which (subst (λ bs. i < length bs) v is.0)
    ∙ ap (λ rows. option_map row_of (at_key rows c.args.key)) c.self.view_is in
    record { value = value; absent = absent_from c.args.self.now c.args.key c.get-2.result value }
