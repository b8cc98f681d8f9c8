use Rattle.std.proofs.Common.{◌≡◌, IfOk, [], ap, ◌∙◌, subst}
use Rattle.ring_table.specs.Listing.{serials_of, listed_of}
use Rattle.ring_table.proofs.ListingLaws.{listed_is}
use Rattle.ring_table.proofs.table.Table.serials.Goals as goal

pub returns : goal.returns
returns g c =
    let bs = c.self.inside.buckets.items in
    let same = ap (listed_of []) c.as_slice.ensures.value ∙ listed_is bs c.self.invariant.buckets ∙ ap serials_of c.self.view_is in
    subst (λ es. IfOk c.list_all.result (λ serials. serials.entries ≡ es)) same c.list_all.ensures
