use Rattle.std.proofs.Common.{◌≡◌, ◌+◌, ◌*◌, refl, ap, ◌∙◌, arith}
use Rattle.argo_base.specs.Pieces.{pieces}
use Rattle.argo_base.specs.Layout.{answer_bytes}
use Rattle.line_phase.specs.declared.phase.Text.TheVariants.{Answer}
use Rattle.line_phase.specs.Entries.{entry_at}
use Rattle.line_phase.proofs.LeadLaws.{writes_lead}
use Rattle.line_phase.proofs.reads.Entry.answered.Goals as goal

pub returns-in-Answer : goal.returns-in-Answer
returns-in-Answer c =
    let e = c.args.self in
    let a = c.in-Answer.answer in
    let at : e.base + (16 + 20 * e.place) ≡ entry_at e + 8 = omega arith in
    rw c.in-Answer.is
    (writes_lead c.beyond.result (entry_at e + 8) 12 (Answer a e) (answer_bytes a.flags 0 a.need a.most) (5 * e.later + 2)
    (c.beyond.ensures.pieces ∙ ap (λ n. pieces n 12) at) c.beyond.ensures.left c.beyond.ensures.sound (omega arith) refl (λ line. refl) c.requires (omega arith))
