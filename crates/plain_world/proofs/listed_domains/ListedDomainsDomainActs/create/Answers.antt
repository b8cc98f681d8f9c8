use Rattle.std.proofs.Common.{ap, subst}
use Rattle.argo_model.specs.Rules.Destroy.{create}
use Rattle.argo_model.specs.Rules.State.{State}
use Rattle.plain_world.specs.Levels.{Levels, AreLevel}
use Rattle.touch_laws.proofs.ActLaws.{create_same}
use Rattle.plain_world.proofs.LevelActs.{level_same}
use Rattle.state_laws.proofs.StateActs.{valid_create}
use Rattle.plain_world.proofs.listed_domains.ListedDomainsDomainActs.create.Goals as goal

pub invariant_of-self-2 : goal.invariant_of-self-2
invariant_of-self-2 g c =
    let i = c.self.inside in
    let w : Levels = record { state = i.domains; sends = i.sends; waits = i.waits } in
    let d = c.args.dom in
    let P : State → Type 0 = λ s. AreLevel (record { state = s; sends = i.sends; waits = i.waits }) in
    subst P (ap (λ x. x.state) c.in_ok-outcome.ensures.ok)
    (level_same w (create i.domains d).state (valid_create i.domains d c.self.invariant.valid) (create_same i.domains d) c.self.invariant)
