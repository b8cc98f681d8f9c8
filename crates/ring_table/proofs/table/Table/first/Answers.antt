use Rattle.std.proofs.Common.{◌∙◌, ap, None, option_map}
use Rattle.std.specs.Prelude.{slice_get}
use Rattle.ring_table.specs.Rows.{entry_of}
use Rattle.ring_table.specs.Scans as scans
use Rattle.ring_table.proofs.FirstLaws.{first_is}
use Rattle.ring_table.proofs.table.Table.first.Goals as goal

pub returns : goal.returns
returns g c =
    let bs = c.self.inside.buckets.items in
    ap (option_map entry_of) (c.first_of.ensures ∙ ap (scans.first_of None) c.as_slice.ensures.value)
    ∙ first_is bs c.self.invariant.buckets
    ∙ ap (λ rows. slice_get rows 0) c.self.view_is
