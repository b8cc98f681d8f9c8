use Rattle.std.proofs.Common.{◌≡◌, length}
use Rattle.ring_table.specs.Buckets.{AreEmpty}
use Rattle.ring_table.proofs.table.edits.empty_buckets.Given as goal

abbrev pub invariant-loop-made : goal.invariant-loop-made
invariant-loop-made g l = (length l.buckets.items ≡ l._made) × AreEmpty l.buckets.items
