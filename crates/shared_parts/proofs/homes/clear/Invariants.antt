use Rattle.std.proofs.Common.{◌≡◌, drop}
use Rattle.guest_pages.specs.Rows.{numbers_of}
use Rattle.shared_parts.specs.Homes.{cleared}
use Rattle.shared_parts.proofs.homes.clear.Given as goal

abbrev pub invariant-loop-place : goal.invariant-loop-place
invariant-loop-place l = cleared (numbers_of l.row) l.initial.homes.items ≡ cleared (drop l.place (numbers_of l.row)) l.homes.items
