use Rattle.std.proofs.Common.{◌≡◌, length}
use Rattle.shared_world.proofs.FreshPasses.{AreFreshFrom}
use Rattle.shared_world.proofs.world.world_passes.Given as goal

-- as many passes as were made, all fresh
abbrev pub invariant-loop-pass : goal.invariant-loop-pass
invariant-loop-pass g l = (l.vcpu ≡ length l.yielded) × (length l.all.items ≡ length l.yielded) × AreFreshFrom 0 l.all.items
