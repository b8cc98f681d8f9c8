use Rattle.std.proofs.Common.{◌≡◌, take}
use Rattle.guest_pages.specs.Rows.{numbers_of}
use Rattle.paged_live.proofs.closed.pages_of.Given as goal

abbrev pub invariant-loop-place : goal.invariant-loop-place
invariant-loop-place l = l.pages ≡ take l.place (numbers_of l.row)
