use Rattle.std.proofs.Common.{option_map, sym, ap, ◌∙◌}
use Rattle.argo_base.specs.declared.ring_key.RingKey.{RingKey}
use Rattle.argo_model.specs.Rules.State.{Live, Ring}
use Rattle.argo_model.specs.Rules.Sweep.{next_ring}
use Rattle.paged_live.specs.Parts.{Parts}
use Rattle.paged_live.proofs.SweepLaws.{next_none, next_is}
use Rattle.paged_live.proofs.keyed.LiveKeyedRings.next_ring.Goals as goal

pub returns-in_default : goal.returns-in_default
returns-in_default c =
    let i = c.self.inside in
    let x : Parts = record { private = i.private; homes = i.homes.items; flag = i.flag; next_serial = i.next_serial; rows = i.rings } in
    ap (option_map (λ (e : RingKey × Ring). e.0)) (sym (next_none x c.self.invariant c.args.after c.in_default.ensures.none))
    ∙ ap (λ (l : Live). option_map (λ (e : RingKey × Ring). e.0) (next_ring c.args.after l.rings)) c.self.view_is

pub returns : goal.returns
returns c =
    let i = c.self.inside in
    let x : Parts = record { private = i.private; homes = i.homes.items; flag = i.flag; next_serial = i.next_serial; rows = i.rings } in
    ap (option_map (λ (e : RingKey × Ring). e.0)) (sym (next_is x c.self.invariant c.args.after c.in-Some.row.now c.in-Some.ensures.some))
    ∙ ap (λ (l : Live). option_map (λ (e : RingKey × Ring). e.0) (next_ring c.args.after l.rings)) c.self.view_is
