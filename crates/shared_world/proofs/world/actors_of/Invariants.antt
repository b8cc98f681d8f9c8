use Rattle.std.proofs.Common.{◌≡◌, map, take}
use Rattle.shared_world.proofs.world.actors_of.Given as goal

abbrev pub invariant-loop-part : goal.invariant-loop-part
invariant-loop-part l = l.actors.items ≡ map (λ x. x.actor) (take l.part-index l.parts)
