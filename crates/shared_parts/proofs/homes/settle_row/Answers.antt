use Rattle.std.proofs.Common.{◌+◌, ◌<◌, ◌∙◌, ℕ, List, length, drop, ap, sym, arith}
use Rattle.std.proofs.lemmas.List.{length-map}
use Rattle.guest_pages.specs.Rows.{numbers_of}
use Rattle.shared_parts.specs.Homes.{settled}
use Rattle.shared_parts.proofs.HomeLaws.{settle_next, number_of}
use Rattle.shared_parts.proofs.homes.settle_row.Goals as goal

pub loop-place-preserved : goal.loop-place-preserved
loop-place-preserved c =
    let row = c.args.row.now in
    let key = c.args.key.now in
    let k = c.loop-place.place in
    let count = c.count-place-end.ensures.count in
    let inside : k < length row = omega (arith, c.loop-place-test.true, count) in
    let below : k < length (numbers_of row) = omega (arith, inside, length-map row (λ (p : ℕ × List ℕ). p.0)) in
    c.loop-place.invariant
    ∙ settle_next key (numbers_of row) c.loop-place.homes.items k c.number.result below (c.number.ensures ∙ number_of row k inside)
    ∙ ap (settled key (k + 1) (drop (k + 1) (numbers_of row))) (sym c.note.ensures)
