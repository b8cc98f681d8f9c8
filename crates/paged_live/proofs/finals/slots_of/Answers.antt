use Rattle.std.proofs.Common.{◌≡◌, suc, ◌+◌, ◌-◌, ◌<◌, ◌++◌, ◌∙◌, ap, sym, length, take, drop, arith, length-append}
use Rattle.guest_pages.specs.Rows.{row_bytes}
use Rattle.paged_live.proofs.SlotLaws.{row_more, slots_more}
use Rattle.paged_live.proofs.finals.slots_of.Goals as goal

pub loop-place-preserved : goal.loop-place-preserved
loop-place-preserved c =
    let len = c.args.len in
    let row = c.args.row.now in
    let k = c.loop-place.place in
    let own = row_bytes (take k row) in
    let page = c.page-page.result.now in
    let so = c.loop-place.invariant in
    let inside : k < length row = omega (arith, c.loop-place-test.true, c.count-place-end.ensures.count) in
    let next : suc k ≡ k + 1 = omega arith in
    let more : row_bytes (take (k + 1) row) ≡ own ++ page =
    ap (λ n. row_bytes (take n row)) (sym next) ∙ row_more row k inside ∙ ap (λ p. own ++ p) (sym c.page-page.ensures.value) in
    let part : c.first.result.now ≡ take (len - length (take len (drop 64 own))) (drop (64 - length own) page) =
    c.first.ensures
    ∙ ap (take (len - c.len.result)) c.after.ensures
    ∙ ap (λ n. take (len - n) (drop c.loop-place.header page)) (c.len.ensures ∙ ap length so.0)
    ∙ ap (λ h. take (len - length (take len (drop 64 own))) (drop h page)) so.1 in (
      c.in_ok-append.ensures.ok
          ∙ ap (λ s. c.loop-place.bytes ++ s) part
          ∙ ap (λ b. b ++ take (len - length (take len (drop 64 own))) (drop (64 - length own) page)) so.0
          ∙ slots_more own page len
          ∙ ap (λ bs. take len (drop 64 bs)) (sym more),
      omega (arith, ap length more, length-append own page, c.page-page.ensures.whole),
    )
