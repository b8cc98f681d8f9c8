use Rattle.std.proofs.Common.{sym, ap, ◌∙◌, subst}
use Rattle.argo_model.specs.Rules.Destroy.{forget, gone_domain}
use Rattle.argo_model.specs.Rules.State.{State, change_domain}
use Rattle.plain_world.specs.Levels.{Levels, AreLevel}
use Rattle.plain_world.proofs.GoneLaws.{level_gone}
use Rattle.plain_world.proofs.listed_domains.ListedDomains.destroy_by_lists.Goals as goal
use Rattle.domains.specs.ById.{rings_of}

pub invariant_of-self : goal.invariant_of-self
invariant_of-self g c =
    let i = c.self.inside in
    let j = c.self-2.inside in
    let w : Levels = record { state = j.domains; sends = j.sends; waits = j.waits } in
    let d = c.args.dom in
    let v = c.end_listed-visits in
    let P : State → Type 0 = λ s. AreLevel (record { state = s; sends = j.sends; waits = j.waits }) in
    subst P (sym c.end_one.ensures)
    (level_gone w i.domains d c.self.invariant.valid (sym c.is_alive.ensures ∙ c.if-not-is_alive.false) c.self-2.invariant
    (ap (λ (w : Levels). rings_of w.state d) c.self-2.view_is ∙ v.ensures.rings)
    (ap (λ (w : Levels). change_domain w.state d gone_domain) c.self-2.view_is ∙ v.ensures.same.gone
    ∙ ap (λ (w : Levels). change_domain (forget w.state d) d gone_domain) (sym c.self.view_is)))
