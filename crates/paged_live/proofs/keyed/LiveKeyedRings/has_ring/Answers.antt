use Rattle.std.proofs.Common.{ap, ◌∙◌}
use Rattle.std.specs.Prelude.{is_some}
use Rattle.argo_model.specs.Rules.Register.{has_ring}
use Rattle.argo_model.specs.Rules.State.{Live}
use Rattle.paged_live.specs.Parts.{Parts}
use Rattle.paged_live.proofs.EndLaws.{copied_there, there_seen}
use Rattle.paged_live.proofs.keyed.LiveKeyedRings.has_ring.Goals as goal

pub returns : goal.returns
returns c =
    let i = c.self.inside in
    let x : Parts = record { private = i.private; homes = i.homes.items; flag = i.flag; next_serial = i.next_serial; rows = i.rings } in
    c.is_some.ensures
    ∙ copied_there c.find_exact.result
    ∙ ap is_some c.find_exact.ensures.value ∙ there_seen x c.args.key
    ∙ ap (λ (l : Live). has_ring l c.args.key) c.self.view_is
