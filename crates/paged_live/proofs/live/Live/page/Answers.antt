use Rattle.std.proofs.Common.{◌*◌, take, drop, sym, ap, ◌∙◌}
use Rattle.argo_model.specs.Rules.Act.{fetch}
use Rattle.argo_model.specs.Rules.State.{Live}
use Rattle.paged_live.specs.Parts.{Parts}
use Rattle.paged_live.proofs.MemoryLaws.{page_read, page_none}
use Rattle.paged_live.proofs.live.Live.page.Goals as goal

pub returns-in-Bytes : goal.returns-in-Bytes
returns-in-Bytes c = page_read c.args.self.now c.args.page c.in-Bytes.bytes (sym c.in-Bytes.is ∙ c.in_ok-bytes.ensures)

pub returns-in_default : goal.returns-in_default
returns-in_default c =
    let i = c.self.inside in
    let x : Parts = record { private = i.private; homes = i.homes.items; flag = i.flag; next_serial = i.next_serial; rows = i.rings } in
    c.new.ensures
    ∙ page_none x c.self.invariant c.args.page c.in_ok-bytes.field-0 (c.in_ok-bytes.ensures ∙ ap (λ (l : Live). fetch l c.args.page 0 4096) (sym c.self.view_is))
    (λ bytes is. c.in_default.not-Bytes bytes is)
    ∙ ap (λ (l : Live). take 4096 (drop (4096 * c.args.page) l.bytes)) c.self.view_is
