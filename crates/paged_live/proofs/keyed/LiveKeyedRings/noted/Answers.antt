use Rattle.std.proofs.Common.{sym, ap, ◌∙◌}
use Rattle.std.specs.Option.{option_copied}
use Rattle.argo_model.specs.Rules.State.{Live}
use Rattle.argo_model.specs.Rules.Register.{own_ring}
use Rattle.live_domain.specs.Keyed.{noted_on}
use Rattle.paged_live.specs.Parts.{Parts}
use Rattle.paged_live.proofs.EndLaws.{none_seen}
use Rattle.paged_live.proofs.PartsLaws.{found_row, ring_seen}
use Rattle.paged_live.proofs.keyed.LiveKeyedRings.noted.Goals as goal

pub returns-in_default : goal.returns-in_default
returns-in_default c =
    let i = c.self.inside in
    let x : Parts = record { private = i.private; homes = i.homes.items; flag = i.flag; next_serial = i.next_serial; rows = i.rings } in
    ap noted_on (sym (none_seen x c.args.key c.in_default.ensures.absent)) ∙ ap (λ (l : Live). noted_on (own_ring l c.args.key)) c.self.view_is

pub returns : goal.returns
returns c =
    let i = c.self.inside in
    let x : Parts = record { private = i.private; homes = i.homes.items; flag = i.flag; next_serial = i.next_serial; rows = i.rings } in
    let row = c.in-Some.row.now in
    let f = found_row x.rows c.args.key row (sym c.find_exact.ensures.value ∙ ap option_copied c.in-Some.is) in
    c.as_slice.ensures.value ∙ c.notices.ensures
    ∙ ap noted_on (sym (ring_seen x.rows c.args.key row.value f)) ∙ ap (λ (l : Live). noted_on (own_ring l c.args.key)) c.self.view_is
