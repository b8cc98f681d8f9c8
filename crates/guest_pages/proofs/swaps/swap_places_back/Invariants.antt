use Rattle.guest_pages.proofs.SwapLaws.{IsAt}
use Rattle.guest_pages.proofs.swaps.swap_places_back.Given as goal

abbrev pub invariant-loop-left : goal.invariant-loop-left
invariant-loop-left l = IsAt l.initial.pages l.initial.row l.row l.pages l.left

abbrev pub decreases-loop-left : goal.decreases-loop-left
decreases-loop-left l = l.left
