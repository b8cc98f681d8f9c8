use Rattle.std.proofs.Common.{◌≡◌, [], sym, ap, ◌∙◌}
use Rattle.std.proofs.lemmas.Result.{IfOk-weaker}
use Rattle.argo_base.specs.declared.errno.Errno.TheVariants.{Fault}
use Rattle.argo_base.specs.Layout.{answer_bytes}
use Rattle.line_phase.specs.Cursor.{pieces_left}
use Rattle.line_phase.specs.Ranges.{last_of}
use Rattle.argo_model.specs.Programs.Asks.{put_all, refusal}
use Rattle.argo_model.specs.Programs.Notify.{answer_entries}
use Rattle.line_phase.specs.Entries.{places_after}
use Rattle.line_phase.proofs.phase.Text.put_in.Goals as goal

pub returns-in-Answer-clause-ok : goal.returns-in-Answer-clause-ok
returns-in-Answer-clause-ok g c =
    let rest = c.args.rest in
    let a = c.in-Answer.answer in
    let k = answer_entries (places_after c.in-Answer.entry) in
    let same : answer_bytes a.flags 0 a.need a.most ≡ c.answer_bytes.result = sym c.answer_bytes.ensures in
    rw c.in-Answer.is
    (IfOk-weaker c.put_part-in-Answer.result _ _
    (λ o h. record {
      action = h.action;
      does = ap (λ bs. put_all (pieces_left rest) (last_of rest.left bs) (refusal Fault) k []) same ∙ h.first (refusal Fault) k;
      acts = h.acts;
      counts_are = h.counts_are;
    }) c.put_part-in-Answer.ensures.ok)
