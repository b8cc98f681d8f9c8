use Rattle.std.proofs.Common.{refl, ap, subst}
use Rattle.argo_model.specs.declared.action.Action.{Action}
use Rattle.argo_model.specs.declared.action.Action.TheVariants.{Put}
use Rattle.argo_model.specs.declared.scripts.Actor.TheVariants.{Vcpu}
use Rattle.argo_model.specs.Rules.Act.{act}
use Rattle.argo_model.specs.Rules.State.{State}
use Rattle.plain_world.specs.Levels.{Levels, AreLevel}
use Rattle.touch_laws.proofs.ActLaws.{own_same}
use Rattle.plain_world.proofs.LevelActs.{level_same}
use Rattle.state_laws.proofs.Courses.{valid_fit}
use Rattle.plain_world.proofs.listed_domains.ListedDomainsDomainActs.put.Goals as goal

pub invariant_of-self-2 : goal.invariant_of-self-2
invariant_of-self-2 g c =
    let i = c.self.inside in
    let w : Levels = record { state = i.domains; sends = i.sends; waits = i.waits } in
    let d = c.args.caller.0 in
    let g = c.args.caller.1 in
    let a : Action = Put c.args.page c.args.off c.args.bytes.now in
    let P : State → Type 0 = λ s. AreLevel (record { state = s; sends = i.sends; waits = i.waits }) in
    subst P (ap (λ x. x.state) c.in_ok-outcome.ensures.ok)
    (level_same w (act (Vcpu d g) a i.domains).state (valid_fit (Vcpu d g) a i.domains c.requires c.self.invariant.valid)
    (own_same i.domains d g a refl) c.self.invariant)
