use Rattle.std.proofs.Common.{◌++◌, get_or, sym, ap, ◌∙◌}
use Rattle.argo_machine.specs.Replies.{heard_line_by}
use Rattle.argo_machine.proofs.ReplyLaws.{heard_among-more}
use Rattle.argo_machine.proofs.replies.heard_of_one.Goals as goal

pub loop-i-preserved : goal.loop-i-preserved
loop-i-preserved c =
    let ns = c.args.steps.now in
    let line = c.index-done-i.result in
    c.in_ok-hear.ensures
    ∙ ap (λ hs. hs ++ heard_line_by c.args.v line (get_or ns c.loop-i.i 0)) c.loop-i.invariant
    ∙ sym (heard_among-more c.args.done.now ns c.loop-i.i line c.args.v c.requires c.loop-i-test.true c.index-done-i.is)
