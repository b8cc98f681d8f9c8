use Rattle.std.proofs.Common.{◌≡◌, ap, ◌∙◌, subst}
use Rattle.argo_model.specs.Rules.Destroy.{forget}
use Rattle.domain_lists.specs.Lists.{ids_of}
use Rattle.plain_world.specs.Levels.{Levels}
use Rattle.plain_world.proofs.DoneLaws.{all_forgotten}
use Rattle.plain_world.proofs.listed_domains.ListedDomains.nothing_is_left.Goals as goal

pub returns-clause-left : goal.returns-clause-left
returns-clause-left g c =
    let i = c.self.inside in
    let w : Levels = record { state = i.domains; sends = i.sends; waits = i.waits } in
    let d = c.args.dom in
    let P : Levels → Type 0 = λ w. forget w.state d ≡ w.state in
    subst P c.self.view_is
    (all_forgotten w d c.self.invariant (ap (λ (w : Levels). ids_of w.sends d) c.self.view_is ∙ c.requires.sends) (ap (λ (w : Levels). ids_of w.waits d) c.self.view_is ∙ c.requires.waits))
