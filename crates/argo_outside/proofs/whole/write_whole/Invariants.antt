use Rattle.std.proofs.Common.{length, take, ◌-◌, ◌≡◌, ◌≤◌}
use Rattle.argo_outside.specs.Sink.{appended}
use Rattle.argo_outside.proofs.whole.write_whole.Given as goal

-- the bytes before the place are appended
abbrev pub invariant-loop-at : goal.invariant-loop-at
invariant-loop-at g l = record {
  within : l.at ≤ length l.piece;
  told : g.K.Sink.written l.out ≡ appended (g.K.Sink.written l.fn.out) (take l.at l.piece);
  count : g.K.Sink.faults l.fn.out ≤ g.K.Sink.faults l.out;
}

abbrev pub decreases-loop-at : goal.decreases-loop-at
decreases-loop-at g l = length l.piece - l.at
