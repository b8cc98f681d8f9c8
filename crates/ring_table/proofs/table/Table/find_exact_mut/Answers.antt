use Rattle.std.proofs.Common.{◌≡◌, ap, sym, ◌∙◌, slice_set, option_map, is_some, inr, cond}
use Rattle.std.specs.Prelude.{Some}
use Rattle.std.specs.BTreeMap.{is_at}
use Rattle.std.proofs.lemmas.List.{set-get_or}
use Rattle.argo_base.specs.Match.{key_cmp}
use Rattle.ring_table.specs.Rows.{held_of, held_at}
use Rattle.ring_table.specs.Edits.{with_value}
use Rattle.ring_table.specs.Buckets.{rows_in}
use Rattle.ring_table.proofs.BucketLaws.{find, held_in}
use Rattle.ring_table.proofs.EditLaws.{lends_as, lent_rows, lent_table}
use Rattle.ring_table.proofs.table.Table.find_exact_mut.Goals as goal

pub returns-in_default-get_mut : goal.returns-in_default-get_mut
returns-in_default-get_mut g c =
    let i = c.bucket_of.result in
    let d = c.in-Some.bucket.now in
    let bs = c.self.inside.buckets.items in
    let is = c.in-Some.ensures.item.3 in
    let same : rows_in (slice_set bs i c.get_mut-2.follows.lender-at-none) ≡ c.args.self.now =
    ap (λ b. rows_in (slice_set bs i b)) (c.get_mut-2.follows.holds-at-none ∙ is.1 d) ∙ ap rows_in (set-get_or bs i d) ∙ c.self.view_is in (
      λ k. inr (same k),
      record {
        writes_back = tt;
        value = sym (ap (λ rows. option_map (λ h. h.value) (held_at rows c.args.key)) (sym c.self.view_is)
            ∙ ap (option_map (λ h. h.value)) (held_in bs c.self.invariant.buckets c.args.key i d c.bucket_of.ensures.which is.0
            ∙ ap (λ b. option_map held_of (find b.entries c.args.key)) (sym (is.1 d))
            ∙ ap (option_map held_of) (sym c.in_default-get_mut.ensures.value)));
      },
    )

pub invariant_of-self-lent : goal.invariant_of-self-lent
invariant_of-self-lent g c w =
    let i = c.bucket_of.result in
    let d = c.in-Some.bucket.now in
    let bs = c.self.inside.buckets.items in
    let is = c.in-Some.ensures.item.3 in
    let there = c.in-Some-get_mut.ensures.value in
    lent_table bs c.self.invariant.buckets c.args.key i c.bucket_of.ensures.which is.0 d c.in-Some-get_mut.row.now
    (ap (λ b. find b.entries c.args.key) (sym (is.1 d)) ∙ sym there) c.get_mut-2.follows.lender
    (λ row q. ((c.get_mut-2.follows.holds row).3 (sym (ap is_some there))).0 q ∙ ap (λ b. cond (is_at (key_cmp c.args.key) q) (Some row) (find b.entries q)) (is.1 d))
    (λ row. (c.get_mut-2.follows.holds row).4) c.self.inside.count c.self.invariant w

pub returns : goal.returns
returns g c =
    let i = c.bucket_of.result in
    let d = c.in-Some.bucket.now in
    let bs = c.self.inside.buckets.items in
    let is = c.in-Some.ensures.item.3 in
    let there = c.in-Some-get_mut.ensures.value in
    let rows = lent_rows bs c.self.invariant.buckets c.args.key i c.bucket_of.ensures.which is.0 d c.in-Some-get_mut.row.now
    (ap (λ b. find b.entries c.args.key) (sym (is.1 d)) ∙ sym there) c.get_mut-2.follows.lender
    (λ row q. ((c.get_mut-2.follows.holds row).3 (sym (ap is_some there))).0 q ∙ ap (λ b. cond (is_at (key_cmp c.args.key) q) (Some row) (find b.entries q)) (is.1 d))
    (λ row. (c.get_mut-2.follows.holds row).4) in (
      lends_as (λ w. rows w ∙ ap (λ all. with_value all c.args.key w) c.self.view_is),
      record {
        writes_back = tt;
        value = sym (ap (λ all. option_map (λ h. h.value) (held_at all c.args.key)) (sym c.self.view_is)
            ∙ ap (option_map (λ h. h.value)) (held_in bs c.self.invariant.buckets c.args.key i d c.bucket_of.ensures.which is.0
            ∙ ap (λ b. option_map held_of (find b.entries c.args.key)) (sym (is.1 d))
            ∙ ap (option_map held_of) (sym there)));
      },
    )
