use Rattle.std.proofs.Common.{refl, arith}
use Rattle.argo_base.specs.declared.errno.Errno.TheVariants.{Fault}
use Rattle.argo_model.specs.Programs.Asks.{read, refusal}
use Rattle.argo_model.specs.Programs.Notify.{notify_head, notify_entries}
use Rattle.line_phase.specs.Cursor.{pieces_left}
use Rattle.line_phase.specs.declared.phase.Reader.TheVariants.{Notify}
use Rattle.line_phase.specs.declared.reads.NotifyRead.TheVariants.{Head}
use Rattle.line_phase.specs.declared.phase.Followed.TheVariants.{To}
use Rattle.line_phase.proofs.LeadLaws.{leads_by, reads_lead}
use Rattle.line_phase.proofs.NotifyLaws.{notify_entries-some}
use Rattle.line_phase.proofs.notify.begin.Goals as goal

pub returns : goal.returns
returns c =
    let base = c.args.base in
    leads_by (notify_entries base) (read base 8 (notify_head base)) 1282 (To c.reading.result) (notify_entries-some base c.if-base-eq0.false)
    (reads_lead (pieces_left c.over-rest.result) base 8 (Notify (Head base)) c.reading.result (refusal Fault) (notify_head base) 1282
    c.over-rest.ensures.pieces (λ os. refl) (λ bs os. refl) (omega arith) c.reading.ensures)
