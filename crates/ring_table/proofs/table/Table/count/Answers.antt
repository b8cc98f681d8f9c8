use Rattle.std.proofs.Common.{subst}
use Rattle.std.specs.List.Sorted.{IsStrictlySortedBy}
use Rattle.std.specs.Map.{keys_of}
use Rattle.argo_base.specs.Match.{key_cmp}
use Rattle.ring_table.proofs.BucketLaws.{sorted-rows}
use Rattle.ring_table.proofs.table.Table.count.Goals as goal

pub returns-clause-rising : goal.returns-clause-rising
returns-clause-rising g c = subst (λ rows. IsStrictlySortedBy key_cmp (keys_of rows)) c.self.view_is (sorted-rows c.self.inside.buckets.items)
