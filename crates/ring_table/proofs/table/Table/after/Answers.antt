use Rattle.std.proofs.Common.{◌∙◌, sym, ap, subst, None}
use Rattle.std.specs.Option.{option_copied, MatchOption}
use Rattle.ring_table.specs.Buckets.{rows_in}
use Rattle.ring_table.specs.Serials.{NoneAbove, IsNext}
use Rattle.ring_table.specs.Scans as scans
use Rattle.ring_table.proofs.ScanLaws.{after_is, some_of_copy, none_of_copy}
use Rattle.ring_table.proofs.table.Table.after.Goals as goal

pub returns : goal.returns
returns g c =
    let s = c.args.serial in
    let rows = c.args.self.now in
    let bs = c.self.inside.buckets.items in
    let e = c.next_of.ensures ∙ ap (scans.next_of s None) c.as_slice.ensures.value in
    let both : MatchOption (option_copied c.next_of.result) (NoneAbove rows s) (IsNext rows s) =
    subst (λ all. MatchOption (option_copied c.next_of.result) (NoneAbove all s) (IsNext all s)) c.self.view_is
    (subst (λ o. MatchOption o (NoneAbove (rows_in bs) s) (IsNext (rows_in bs) s)) (sym e) (after_is s bs c.self.invariant.buckets)) in
    record {
      some = some_of_copy (NoneAbove rows s) (IsNext rows s) c.next_of.result both;
      none = none_of_copy (NoneAbove rows s) (IsNext rows s) c.next_of.result both;
    }
