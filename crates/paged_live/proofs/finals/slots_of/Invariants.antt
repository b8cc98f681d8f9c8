use Rattle.std.proofs.Common.{◌≡◌, ◌-◌, length, take, drop}
use Rattle.guest_pages.specs.Rows.{row_bytes}
use Rattle.paged_live.proofs.finals.slots_of.Given as goal

abbrev pub invariant-loop-place : goal.invariant-loop-place
invariant-loop-place l =
    (l.bytes ≡ take l.len (drop 64 (row_bytes (take l.place l.row)))) × (l.header ≡ 64 - length (row_bytes (take l.place l.row)))
