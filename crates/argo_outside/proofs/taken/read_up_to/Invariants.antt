use Rattle.std.proofs.Common.{◌≡◌, ◌-◌, ◌≤◌, ◌<◌, length}
use Rattle.argo_outside.specs.Source.{behind}
use Rattle.argo_outside.proofs.taken.read_up_to.Given as goal

-- what was taken, and what is left behind it, are what was left
abbrev pub invariant-loop-bytes : goal.invariant-loop-bytes
invariant-loop-bytes g l = record {
  room : 0 < l.most → 0 < length l.buf.items;
  untouched : l.most ≡ 0 → l.src ≡ l.fn.src;
  most : length l.bytes ≤ l.most;
  told : g.S.Source.left l.fn.src ≡ behind l.bytes (g.S.Source.left l.src);
  count : g.S.Source.faults l.fn.src ≤ g.S.Source.faults l.src;
}

abbrev pub decreases-loop-bytes : goal.decreases-loop-bytes
decreases-loop-bytes g l = l.most - length l.bytes
