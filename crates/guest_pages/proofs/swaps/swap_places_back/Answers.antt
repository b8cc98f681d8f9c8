use Rattle.std.proofs.Common.{◌-◌, ap, arith}
use Rattle.std.specs.Prelude.{slice_index_or}
use Rattle.guest_pages.proofs.SwapLaws.{back_step}
use Rattle.guest_pages.proofs.swaps.swap_places_back.Goals as goal

pub loop-left-preserved : goal.loop-left-preserved
loop-left-preserved c =
    let k = c.loop-left.left - 1 in
    back_step c.args.pages.now c.args.row.now c.loop-left.row c.loop-left.pages c.swap_place.new.pages c.loop-left.left k
    (slice_index_or c.loop-left.row k c.index-row-left.result) c.swap_place.new.place (omega arith) c.loop-left.invariant
    (ap (λ e. slice_index_or c.loop-left.row k e) c.index-row-left.is) c.swap_place.ensures.pages c.swap_place.ensures.number
    c.swap_place.ensures.page
