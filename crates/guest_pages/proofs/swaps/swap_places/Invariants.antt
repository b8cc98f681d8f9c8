use Rattle.std.proofs.Common.{◌≡◌, ◌++◌, take, drop}
use Rattle.guest_pages.specs.Swaps.{swapped_in}
use Rattle.guest_pages.proofs.swaps.swap_places.Given as goal

abbrev pub invariant-loop-place : goal.invariant-loop-place
invariant-loop-place l =
    ((swapped_in l.initial.pages l.initial.row).0 ≡ (swapped_in l.pages (drop l.place-index l.row)).0)
    × ((swapped_in l.initial.pages l.initial.row).1 ≡ take l.place-index l.row ++ (swapped_in l.pages (drop l.place-index l.row)).1)
