use Rattle.std.proofs.Common.{option_map, sym, ap, ◌∙◌, subst}
use Rattle.std.specs.Option.{option_copied}
use Rattle.ring_table.specs.Rows.{entry_of, held_of}
use Rattle.paged_live.specs.Finals.{IsFirst, TookFirst}
use Rattle.paged_live.proofs.FinalLaws.{none_first, took_first, none_took}
use Rattle.paged_live.proofs.finals.take_first.Goals as goal

pub returns-in_err-key : goal.returns-in_err-key
returns-in_err-key c =
    let rows = c.args.rings.now in
    subst (TookFirst rows rows) (sym c.from_residual.ensures)
    (none_first rows (sym c.first.ensures ∙ ap (λ o. option_map entry_of (option_copied o)) c.in_err-key.was))

pub returns-in_err-ring : goal.returns-in_err-ring
returns-in_err-ring c =
    let rows = c.args.rings.now in
    let row = c.in_ok-key.field-0.now in
    subst (TookFirst rows c.remove.new.self) (sym c.from_residual-in_err-ring.ensures)
    (none_took rows row.key (held_of row) (sym c.first.ensures ∙ ap (λ o. option_map entry_of (option_copied o)) c.in_ok-key.was)
    (sym c.remove.ensures.value ∙ c.in_err-ring.was))

pub returns : goal.returns
returns c =
    let rows = c.args.rings.now in
    let row = c.in_ok-key.field-0.now in
    let v = c.in_ok-ring.ring in
    subst (λ new. IsFirst rows new (row.key, v)) (sym c.remove.ensures.rest)
    (took_first rows row.key (held_of row) v (sym c.first.ensures ∙ ap (λ o. option_map entry_of (option_copied o)) c.in_ok-key.was)
    (sym c.remove.ensures.value ∙ c.in_ok-ring.was))
