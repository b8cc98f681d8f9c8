use Rattle.std.proofs.Common.{◌≡◌, drop, []}
use Rattle.ring_table.specs.Listing.{listed_of}
use Rattle.ring_table.proofs.table.listing.list_all.Given as goal

abbrev pub invariant-loop-bucket : goal.invariant-loop-bucket
invariant-loop-bucket g l = listed_of l.serials.entries (drop l.bucket-index l.buckets) ≡ listed_of [] l.buckets
