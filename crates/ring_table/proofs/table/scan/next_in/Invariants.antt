use Rattle.std.proofs.Common.{◌≡◌}
use Rattle.std.specs.List.{fold}
use Rattle.std.specs.Option.{option_copied}
use Rattle.ring_table.specs.Scans as scans
use Rattle.ring_table.proofs.table.scan.next_in.Given as goal

abbrev pub invariant-loop-row : goal.invariant-loop-row
invariant-loop-row g l = fold (scans.nearer l.serial) (option_copied l.best) l.row-iterator ≡ scans.next_in l.serial (option_copied l.start) l.bucket
