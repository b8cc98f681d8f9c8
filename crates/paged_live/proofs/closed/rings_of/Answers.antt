use Rattle.std.proofs.Common.{◌++◌, ap, ◌∙◌}
use Rattle.paged_live.specs.Closed.{closed_all}
use Rattle.paged_live.proofs.ClosedLaws.{closed_by_keys}
use Rattle.paged_live.proofs.closed.rings_of.Goals as goal

pub loop-key-init : goal.loop-key-init
loop-key-init c =
    let rows = c.args.rings.now in
    ap (λ cs. cs ++ closed_all rows c.into_iter-key-iterator.result) c.new-closed.ensures
    ∙ ap (closed_all rows) (c.into_iter-key-iterator.ensures.into_iter_gives.0 ∙ c.in_ok-serials.ensures)
    ∙ closed_by_keys rows c.count.ensures.rising
