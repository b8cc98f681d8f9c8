use Rattle.std.proofs.Common.{◌≡◌, IfOk, map, ap, ◌∙◌, subst}
use Rattle.argo_model.specs.Rules.State.{Live}
use Rattle.argo_model.specs.Runs.Closed.{closed_ring}
use Rattle.paged_live.proofs.ClosedLaws.{closed_seen}
use Rattle.paged_live.proofs.acts.LiveLiveDomain.closed_rings.Goals as goal

pub returns : goal.returns
returns c =
    let same = closed_seen c.self.inside.rings ∙ ap (λ (l : Live). map closed_ring l.rings) c.self.view_is in
    subst (λ cs. IfOk c.rings_of.result (λ closed. closed ≡ cs)) same c.rings_of.ensures
