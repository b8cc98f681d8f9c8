use Rattle.std.proofs.Common.{◌≡◌, ◌+◌, ◌*◌, length, sum_by}
use Rattle.argo_board.specs.Board.{most_steps}
use Rattle.argo_board.proofs.totals.settle.Given as goal

abbrev pub invariant-loop-pass : goal.invariant-loop-pass
invariant-loop-pass g l =
    (l.kept.parts + length l.passes.items ≡ g.A.Ledger.parts)
    × (l.kept.room + sum_by (λ p. p.steps) l.fn.passes.items + most_steps * length l.passes.items ≡ sum_by (λ p. p.steps) l.passes.items + most_steps * length l.fn.passes.items)
    × (l.kept.sends + sum_by (λ p. p.accepted) l.passes.items ≡ sum_by (λ p. p.accepted) l.fn.passes.items)
    × (l.kept.loads + sum_by (λ p. p.bytes) l.passes.items ≡ sum_by (λ p. p.bytes) l.fn.passes.items)

abbrev pub decreases-loop-pass : goal.decreases-loop-pass
decreases-loop-pass g l = length l.passes.items
