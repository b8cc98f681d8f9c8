use Rattle.std.proofs.Common.{sym, ap, ◌∙◌, subst}
use Rattle.argo_model.specs.Rules.Destroy.{forget, reset_live}
use Rattle.argo_model.specs.Rules.State.{State, change_domain, change_life}
use Rattle.plain_world.specs.Levels.{Levels, AreLevel}
use Rattle.plain_world.proofs.GoneLaws.{level_reset}
use Rattle.plain_world.proofs.listed_domains.ListedDomains.reset_by_lists.Goals as goal
use Rattle.domains.specs.ById.{rings_of}

pub invariant_of-self : goal.invariant_of-self
invariant_of-self g c =
    let i = c.self.inside in
    let j = c.self-2.inside in
    let w : Levels = record { state = j.domains; sends = j.sends; waits = j.waits } in
    let d = c.args.dom in
    let v = c.end_listed-visits in
    let P : State → Type 0 = λ s. AreLevel (record { state = s; sends = j.sends; waits = j.waits }) in
    subst P (sym c.reset_one.ensures)
    (level_reset w i.domains d c.self.invariant.valid (sym c.is_alive.ensures ∙ c.if-not-is_alive.false) c.self-2.invariant
    (ap (λ (w : Levels). rings_of w.state d) c.self-2.view_is ∙ v.ensures.rings)
    (ap (λ (w : Levels). change_domain w.state d (change_life reset_live)) c.self-2.view_is ∙ v.ensures.same.reset
    ∙ ap (λ (w : Levels). change_domain (forget w.state d) d (change_life reset_live)) (sym c.self.view_is)))
