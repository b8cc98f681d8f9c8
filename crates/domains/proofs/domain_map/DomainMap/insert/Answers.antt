use Rattle.std.proofs.Common.{◌≡◌, Ok, Err, slice_set, sym, ap, ◌∙◌}
use Rattle.std.specs.Ordering.{nat_cmp}
use Rattle.std.specs.BTreeMap.{insert_entry}
use Rattle.domains.specs.Place.{slot_of}
use Rattle.domains.proofs.PlaceLaws.{entry_over, entry_between}
use Rattle.domains.proofs.domain_map.DomainMap.insert.Goals as goal

pub returns-in-Ok : goal.returns-in-Ok
returns-in-Ok g c =
    let s = c.self.inside.rows.items in
    let at : Ok c.in-Ok.place ≡ slot_of s c.args.dom = c.in-Ok.ensures.is ∙ ap (λ rows. slot_of rows c.args.dom) (sym c.self.view_is) in
    ap (λ e. slice_set s c.in-Ok.place (e.0, c.args.value)) c.index_mut.ensures.value
    ∙ sym (entry_over s c.args.dom c.args.value c.in-Ok.place c.index_mut.result.now (sym at))
    ∙ ap (λ rows. insert_entry nat_cmp rows c.args.dom c.args.value) c.self.view_is

pub returns-in_ok-insert-in-Err : goal.returns-in_ok-insert-in-Err
returns-in_ok-insert-in-Err g c =
    let s = c.self.inside.rows.items in
    let at : Err c.in-Err.place ≡ slot_of s c.args.dom = c.in-Err.ensures.is ∙ ap (λ rows. slot_of rows c.args.dom) (sym c.self.view_is) in
    c.in_ok-insert-in-Err.ensures.items
    ∙ sym (entry_between s c.args.dom c.args.value c.in-Err.place (sym at))
    ∙ ap (λ rows. insert_entry nat_cmp rows c.args.dom c.args.value) c.self.view_is
