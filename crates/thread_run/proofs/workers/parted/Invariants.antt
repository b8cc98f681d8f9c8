use Rattle.std.proofs.Common.{◌≡◌, map}
use Rattle.argo_board.specs.Board.{totals_of}
use Rattle.shared_world.specs.Whole.{AreHeardOut}
use Rattle.thread_run.proofs.workers.parted.Given as goal

-- the passes and the replies of the workers so far
abbrev pub invariant-loop-worker : goal.invariant-loop-worker
invariant-loop-worker g l =
    (map (λ p. p.tally.vcpu) l.passes.items ≡ map (λ w. w.number) l.yielded)
    × AreHeardOut (map (λ w. w.vcpu.part) l.yielded) (map (λ p. totals_of p.tally) l.passes.items) l.heard
