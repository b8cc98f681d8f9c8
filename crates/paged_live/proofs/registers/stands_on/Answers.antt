use Rattle.std.proofs.Common.{◌≡◌, ◌≢◌, ◌∙◌, ◌<◌, ℕ, List, length, slice_index, sym, arith}
use Rattle.std.proofs.lemmas.List.{length-map}
use Rattle.guest_pages.specs.Rows.{numbers_of}
use Rattle.paged_live.proofs.LoopLaws.{number_of, drops_same, drops_other}
use Rattle.paged_live.proofs.registers.stands_on.Goals as goal

pub returns-then-number-pages : goal.returns-then-number-pages
returns-then-number-pages c =
    let row = c.args.row.now in
    let pages = c.args.pages.now in
    let k = c.loop-place.place in
    let count = c.count-place-end.ensures.count in
    let counted = c.count.ensures.count in
    let inside : k < length row = omega (arith, c.loop-place-test.true, count) in
    let below : k < length (numbers_of row) = omega (arith, inside, length-map row (λ (p : ℕ × List ℕ). p.0)) in
    let too : k < length pages = omega (arith, inside, counted, c.if-count-pages.false) in
    let other : slice_index (numbers_of row) k ≢ slice_index pages k = λ same.
    let n : c.number.result ≡ slice_index pages k = c.number.ensures ∙ number_of row k inside ∙ same in omega (arith, n, c.if-number-pages.true) in
    sym (c.loop-place.invariant ∙ drops_other (numbers_of row) pages k below too other)

pub loop-place-preserved : goal.loop-place-preserved
loop-place-preserved c =
    let row = c.args.row.now in
    let pages = c.args.pages.now in
    let k = c.loop-place.place in
    let count = c.count-place-end.ensures.count in
    let counted = c.count.ensures.count in
    let inside : k < length row = omega (arith, c.loop-place-test.true, count) in
    let below : k < length (numbers_of row) = omega (arith, inside, length-map row (λ (p : ℕ × List ℕ). p.0)) in
    let too : k < length pages = omega (arith, inside, counted, c.if-count-pages.false) in
    let n : c.number.result ≡ slice_index (numbers_of row) k = c.number.ensures ∙ number_of row k inside in
    let same : slice_index (numbers_of row) k ≡ slice_index pages k = omega (arith, n, c.if-number-pages.false) in
    c.loop-place.invariant ∙ drops_same (numbers_of row) pages k below too same
