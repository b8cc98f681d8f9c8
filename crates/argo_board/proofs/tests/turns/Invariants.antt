use Rattle.std.proofs.Common.{◌≡◌}
use Rattle.argo_board.proofs.tests.turns.Given as goal

abbrev pub invariant-loop-turn : goal.invariant-loop-turn
invariant-loop-turn g l = (l.first.vcpu ≡ 0) × (l.second.vcpu ≡ 1) × (l.third.vcpu ≡ 2)
