use Rattle.std.proofs.Common.{◌≡◌}
use Rattle.ring_table.specs.Listing.{listed_in}
use Rattle.ring_table.proofs.table.listing.list.Given as goal

abbrev pub invariant-loop-key : goal.invariant-loop-key
invariant-loop-key g l = listed_in l.serials.entries l.key-iterator ≡ listed_in l.initial.serials.entries l.bucket.entries
