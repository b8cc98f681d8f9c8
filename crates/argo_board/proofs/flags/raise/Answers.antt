use Rattle.std.proofs.Common.{◌≡◌, ◌<◌, length, ◌∙◌, rules, slice_index_or}
use Rattle.argo_board.proofs.FlagLaws.{raise-more}
use Rattle.argo_board.proofs.flags.raise.Goals as goal

pub loop-dom-preserved : goal.loop-dom-preserved
loop-dom-preserved c =
    let is : c.from.result ≡ c.dom-item.result = c.from.ensures ∙ c.dom.view_is in
    let stands : c.from.result ≡ slice_index_or c.args.doms.now c.loop-dom.dom-index c.from.result = rw is c.dom-item.is in
    let at : c.from.result < length c.loop-dom.set = search rules in (
      search rules,
      λ dom below. raise-more c.loop-dom.set c.args.set.now c.args.doms.now c.loop-dom.dom-index c.from.result dom c.loop-dom-test.true stands at (c.loop-dom.invariant.1 dom below),
    )
