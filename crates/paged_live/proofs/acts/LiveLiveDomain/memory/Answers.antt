use Rattle.std.proofs.Common.{◌+◌, ◌*◌, ◌<◌, ◌++◌, length, take, sym, ap, ◌∙◌, arith}
use Rattle.argo_model.specs.Rules.State.{Live}
use Rattle.paged_live.specs.Parts.{Parts}
use Rattle.paged_live.proofs.MemoryLaws.{page_more, all_pages}
use Rattle.paged_live.proofs.acts.LiveLiveDomain.memory.Goals as goal

pub loop-page-preserved : goal.loop-page-preserved
loop-page-preserved c =
    let bytes = c.args.self.now.bytes in
    let k = c.loop-page.page in
    c.in_ok-append.ensures.ok
    ∙ ap (λ ys. ys ++ c.as_slice.result.now) c.loop-page.invariant
    ∙ ap (λ ys. take (4096 * k) bytes ++ ys) (c.as_slice.ensures ∙ c.in_ok-part.ensures)
    ∙ sym (page_more k bytes)

pub returns : goal.returns
returns c =
    let i = c.self.inside in
    let x : Parts = record { private = i.private; homes = i.homes.items; flag = i.flag; next_serial = i.next_serial; rows = i.rings } in
    let k = c.loop-page.page in
    let count = c.count-page-end.ensures.count in
    let past : length x.private < k + 1 = omega (arith, count, c.loop-page-test.false) in
    c.loop-page.invariant
    ∙ ap (λ (l : Live). take (4096 * k) l.bytes) (sym c.self.view_is)
    ∙ all_pages x c.self.invariant k past
    ∙ ap (λ (l : Live). l.bytes) c.self.view_is
