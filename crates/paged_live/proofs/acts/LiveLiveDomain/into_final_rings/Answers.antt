use Rattle.std.proofs.Common.{◌≡◌, IfOk, map, ap, ◌∙◌, subst}
use Rattle.argo_model.specs.Rules.State.{Live}
use Rattle.argo_model.specs.Runs.Final.{final_ring}
use Rattle.paged_live.specs.Parts.{Parts}
use Rattle.paged_live.proofs.FinalLaws.{finals_seen}
use Rattle.paged_live.proofs.acts.LiveLiveDomain.into_final_rings.Goals as goal

pub returns : goal.returns
returns c =
    let i = c.self.inside in
    let x : Parts = record { private = i.private; homes = i.homes.items; flag = i.flag; next_serial = i.next_serial; rows = i.rings } in
    subst (λ fs. IfOk c.rings_of.result (λ finals. finals ≡ fs))
    (finals_seen x c.self.invariant ∙ ap (λ (l : Live). map (final_ring l.bytes) l.rings) c.self.view_is) c.rings_of.ensures
