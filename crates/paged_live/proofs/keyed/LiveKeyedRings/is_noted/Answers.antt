use Rattle.std.proofs.Common.{sym, ap, ◌∙◌}
use Rattle.std.specs.Prelude.{is_some}
use Rattle.std.specs.Option.{option_copied}
use Rattle.argo_base.specs.Notices.{size_of}
use Rattle.argo_model.specs.Rules.Register.{own_ring}
use Rattle.argo_model.specs.Rules.State.{Live}
use Rattle.live_domain.specs.Keyed.{has_notice}
use Rattle.paged_live.specs.Parts.{Parts}
use Rattle.paged_live.proofs.EndLaws.{none_seen}
use Rattle.paged_live.proofs.PartsLaws.{found_row, ring_seen}
use Rattle.paged_live.proofs.keyed.LiveKeyedRings.is_noted.Goals as goal

pub returns-in_default : goal.returns-in_default
returns-in_default c =
    let i = c.self.inside in
    let x : Parts = record { private = i.private; homes = i.homes.items; flag = i.flag; next_serial = i.next_serial; rows = i.rings } in
    ap (λ o. has_notice o c.args.dom) (sym (none_seen x c.args.key c.in_default.ensures.absent))
    ∙ ap (λ (l : Live). has_notice (own_ring l c.args.key) c.args.dom) c.self.view_is

pub returns : goal.returns
returns c =
    let i = c.self.inside in
    let x : Parts = record { private = i.private; homes = i.homes.items; flag = i.flag; next_serial = i.next_serial; rows = i.rings } in
    let row = c.in-Some.row.now in
    let f = found_row x.rows c.args.key row (sym c.find_exact.ensures.value ∙ ap option_copied c.in-Some.is) in
    c.is_some.ensures ∙ ap is_some (c.size.ensures ∙ ap (λ ns. size_of ns c.args.dom) c.notices.ensures)
    ∙ ap (λ o. has_notice o c.args.dom) (sym (ring_seen x.rows c.args.key row.value f))
    ∙ ap (λ (l : Live). has_notice (own_ring l c.args.key) c.args.dom) c.self.view_is
