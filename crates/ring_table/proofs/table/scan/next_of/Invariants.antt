use Rattle.std.proofs.Common.{◌≡◌, drop, None}
use Rattle.std.specs.Option.{option_copied}
use Rattle.ring_table.specs.Scans as scans
use Rattle.ring_table.proofs.table.scan.next_of.Given as goal

abbrev pub invariant-loop-bucket : goal.invariant-loop-bucket
invariant-loop-bucket g l = scans.next_of l.serial (option_copied l.best) (drop l.bucket-index l.buckets) ≡ scans.next_of l.serial None l.buckets
