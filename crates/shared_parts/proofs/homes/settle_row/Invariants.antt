use Rattle.std.proofs.Common.{◌≡◌, drop}
use Rattle.guest_pages.specs.Rows.{numbers_of}
use Rattle.shared_parts.specs.Homes.{settled}
use Rattle.shared_parts.proofs.homes.settle_row.Given as goal

abbrev pub invariant-loop-place : goal.invariant-loop-place
invariant-loop-place l =
    settled l.key 0 (numbers_of l.row) l.initial.homes.items ≡ settled l.key l.place (drop l.place (numbers_of l.row)) l.homes.items
