use Rattle.std.proofs.Common.{◌≡◌, Ok, Err, sym, ap, ◌∙◌}
use Rattle.std.specs.Ordering.{nat_cmp}
use Rattle.pending_list.specs.Search.{place_of}
use Rattle.pending_list.proofs.NoticeLaws.{size-found, size-absent}
use Rattle.pending_list.proofs.notices.Notices.size.Goals as goal

pub returns-in-Ok : goal.returns-in-Ok
returns-in-Ok c =
    let at : Ok c.in-Ok.place ≡ place_of nat_cmp c.self.inside.rows.items c.args.dom = c.in-Ok.ensures.is ∙ ap (λ rows. place_of nat_cmp rows c.args.dom) c.as_slice.ensures.value in
    rw (c.as_slice-in-Ok.ensures.value, ← c.self.view_is) (sym (size-found c.self.inside.rows.items c.args.dom c.in-Ok.place c.index-as_slice-place.result at))

pub returns-in-Err : goal.returns-in-Err
returns-in-Err c =
    let at : Err c.in-Err.field-0 ≡ place_of nat_cmp c.self.inside.rows.items c.args.dom = c.in-Err.ensures.is ∙ ap (λ rows. place_of nat_cmp rows c.args.dom) c.as_slice.ensures.value in
    rw (← c.self.view_is) (sym (size-absent c.self.inside.rows.items c.args.dom c.in-Err.field-0 c.self.invariant at))
