use Rattle.std.proofs.Common.{◌≡◌, map, take}
use Rattle.argo_model.specs.Runs.Final.{no_steps}
use Rattle.section_world.proofs.section_world.fresh_totals.Given as goal

abbrev pub invariant-loop : goal.invariant-loop
invariant-loop l = l.totals.items ≡ map (λ x. no_steps) (take l.index l.parts)
