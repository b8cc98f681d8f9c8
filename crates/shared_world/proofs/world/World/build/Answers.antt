use Rattle.std.proofs.Common.{rules, IsTrue, subst}
use Rattle.argo_model.specs.Runs.Script.{is_lawful}
use Rattle.shared_world.proofs.PlanLaws.{plan_of}
use Rattle.shared_world.proofs.world.World.build.Goals as goal

pub invariant_of-result : goal.invariant_of-result
invariant_of-result g c = (
  search rules,
  plan_of g.A.Plan.facts g.A.Plan.actors g.A.Ledger.parts c.args.scripts.now c.requires.facts c.requires.actors c.requires.parts
      (subst (λ s. IsTrue (is_lawful s)) c.scripts.view_is c.scripts.invariant),
)
