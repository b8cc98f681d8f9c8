use Rattle.std.proofs.Common.{◌≡◌, [], sym, ap, ◌∙◌}
use Rattle.std.proofs.lemmas.Result.{IfOk-weaker}
use Rattle.argo_base.specs.declared.errno.Errno.TheVariants.{Fault}
use Rattle.argo_base.specs.Layout.{answer_bytes}
use Rattle.line_phase.specs.Cursor.{pieces_left}
use Rattle.line_phase.specs.Ranges.{last_of}
use Rattle.argo_model.specs.Programs.Asks.{put_all, refusal}
use Rattle.argo_model.specs.Programs.Notify.{answer_entries}
use Rattle.line_phase.specs.Entries.{places_after}
use Rattle.line_phase.proofs.phase.Text.put_first.Goals as goal

pub returns-in_ok-bytes-in-Answer-clause-is : goal.returns-in_ok-bytes-in-Answer-clause-is
returns-in_ok-bytes-in-Answer-clause-is c =
    let rest = c.args.rest in
    let a = c.in-Answer.answer in
    let k = answer_entries (places_after c.in-Answer.entry) in
    let same : answer_bytes a.flags 0 a.need a.most ≡ c.as_slice.result.now = sym (c.as_slice.ensures.value ∙ c.in_ok-bytes-in-Answer.ensures) in
    rw c.in-Answer.is
    (IfOk-weaker c.put_last-in-Answer.result _ _
    (λ a is. ap (λ bs. put_all (pieces_left rest) (last_of rest.left bs) (refusal Fault) k []) same ∙ is (refusal Fault) k) c.put_last-in-Answer.ensures.is)
