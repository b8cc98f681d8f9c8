use Rattle.std.proofs.Common.{◌≡◌, length, IsTrue}
use Rattle.flat_live.specs.FreePages.{with_others}
use Rattle.flat_live.specs.Memory.{stand_in}
use Rattle.flat_live.proofs.free_pages.take_others.Given as goal

-- the rings that are left make the same table, and stand inside it
abbrev pub invariant-loop-other : goal.invariant-loop-other
invariant-loop-other l = record {
  same : with_others l.key l.table l.other-iterator ≡ with_others l.key l.initial.table l.rings.entries;
  inside : IsTrue (stand_in (length l.table) l.other-iterator);
}
