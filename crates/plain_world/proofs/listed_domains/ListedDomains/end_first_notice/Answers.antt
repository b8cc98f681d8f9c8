use Rattle.std.proofs.Common.{sym, ap, ◌∙◌, subst}
use Rattle.argo_model.specs.Rules.Destroy.{forget}
use Rattle.argo_model.specs.Rules.State.{State}
use Rattle.plain_world.specs.Levels.{Levels, AreLevel}
use Rattle.touch_laws.proofs.EndLaws.{notice_forgot}
use Rattle.touch_laws.proofs.LeftLaws.{none_noted}
use Rattle.plain_world.proofs.LevelActs.{level_notice}
use Rattle.plain_world.proofs.listed_domains.ListedDomains.end_first_notice.Goals as goal
use Rattle.domains.specs.ById.{rings_of}

pub invariant_of-self-2 : goal.invariant_of-self-2
invariant_of-self-2 g c =
    let i = c.self.inside in
    let w : Levels = record { state = i.domains; sends = i.sends; waits = i.waits } in
    let P : State → Type 0 = λ s. AreLevel (record { state = s; sends = i.sends; waits = c.take_first.new.self }) in
    subst P (sym c.forget_notice.ensures) (level_notice w c.args.dom c.in-Some.id c.take_first.new.self c.self.invariant c.in-Some.ensures.taken c.in-Some.ensures.names)

pub returns-clause-rings : goal.returns-clause-rings
returns-clause-rings g c =
    let i = c.self.inside in
    let d = c.args.dom in
    ap (λ s. rings_of s d) c.forget_notice.ensures
    ∙ none_noted i.domains c.in-Some.id d d (ap (λ (w : Levels). rings_of w.state d) c.self.view_is ∙ c.requires)

pub returns-clause-same : goal.returns-clause-same
returns-clause-same g c =
    let i = c.self.inside in
    let d = c.args.dom in
    ap (λ s. forget s d) c.forget_notice.ensures
    ∙ notice_forgot i.domains c.in-Some.id d c.self.invariant.valid ∙ ap (λ (w : Levels). forget w.state d) c.self.view_is
