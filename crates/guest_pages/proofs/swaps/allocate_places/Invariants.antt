use Rattle.std.proofs.Common.{◌≡◌, ◌++◌, map, take, drop}
use Rattle.guest_pages.specs.Allocated.{allocated, Each, IsGrownPlace}
use Rattle.guest_pages.proofs.swaps.allocate_places.Given as goal

abbrev pub invariant-loop-place : goal.invariant-loop-place
invariant-loop-place l =
    (map allocated l.initial.row ≡ take l.place-index l.row ++ map allocated (drop l.place-index l.row))
    × Each IsGrownPlace l.initial.row l.row
