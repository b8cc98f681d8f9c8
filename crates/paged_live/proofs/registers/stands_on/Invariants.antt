use Rattle.std.proofs.Common.{◌≡◌, drop}
use Rattle.std.specs.Str.{bytes_eq}
use Rattle.guest_pages.specs.Rows.{numbers_of}
use Rattle.paged_live.proofs.registers.stands_on.Given as goal

abbrev pub invariant-loop-place : goal.invariant-loop-place
invariant-loop-place l = bytes_eq (numbers_of l.row) l.pages ≡ bytes_eq (drop l.place (numbers_of l.row)) (drop l.place l.pages)
