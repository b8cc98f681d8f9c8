use Rattle.guest_pages.specs.Allocated.{IsGrownPlace}
use Rattle.guest_pages.proofs.AllocatedLaws.{each_same, same_place_grown}
use Rattle.guest_pages.proofs.swaps.allocate.Goals as goal

pub returns-then-not-is_full-clause-err : goal.returns-then-not-is_full-clause-err
returns-then-not-is_full-clause-err c = each_same IsGrownPlace same_place_grown c.args.row.now.items
