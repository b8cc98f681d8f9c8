use Rattle.std.proofs.Common.{◌≡◌, map}
use Rattle.shared_world.proofs.closing.plain_passes.Given as goal

-- the passes so far
abbrev pub invariant-loop-pass : goal.invariant-loop-pass
invariant-loop-pass g l = l.plain.items ≡ map (λ p. p.tally) l.yielded
