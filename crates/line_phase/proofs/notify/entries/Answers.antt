use Rattle.std.proofs.Common.{◌≡◌, ℕ, List, ◌<◌, ◌+◌, ◌-◌, ◌*◌, refl, ap, ◌∙◌, arith}
use Rattle.argo_base.specs.declared.errno.Errno.TheVariants.{Fault}
use Rattle.argo_base.specs.Pieces.{pieces}
use Rattle.argo_model.specs.declared.action.Outcome.{Outcome}
use Rattle.argo_model.specs.Programs.Asks.{read, refusal}
use Rattle.argo_model.specs.Programs.Notify.{answer_entries, answer_entry}
use Rattle.line_phase.specs.Cursor.{pieces_left}
use Rattle.line_phase.specs.Entries.{places_from}
use Rattle.line_phase.specs.declared.phase.Reader.TheVariants.{Notify}
use Rattle.line_phase.specs.declared.reads.NotifyRead.TheVariants.{Entry}
use Rattle.line_phase.specs.declared.phase.Followed.TheVariants.{To}
use Rattle.line_phase.proofs.LeadLaws.{leads_by, reads_lead}
use Rattle.line_phase.proofs.NotifyLaws.{places_from-first}
use Rattle.line_phase.proofs.notify.entries.Goals as goal

pub returns : goal.returns
returns c =
    let base = c.args.base in
    let place = c.args.place in
    let count = c.args.count in
    let some : 0 < count = omega arith in
    let at : base + (8 + 20 * place) ≡ base + 8 + 20 * place = omega arith in
    let later = places_from base (place + 1) (count - 1) in
    let after = λ (entry : List ℕ) (os : List Outcome). answer_entry (base + 8 + 20 * place) entry (answer_entries later) os in
    leads_by (answer_entries (places_from base place count)) (read (base + 8 + 20 * place) 20 after) (5 * count) (To c.reading.result)
    (λ os. ap (λ ats. answer_entries ats os) (places_from-first base place count some))
    (reads_lead (pieces_left c.beyond-rest.result) (base + 8 + 20 * place) 20
    (Notify (Entry (record { base = base; place = place; later = count - 1 }))) c.reading.result (refusal Fault) after (5 * count)
    (c.beyond-rest.ensures.pieces ∙ ap (λ a. pieces a 20) at) (λ os. refl) (λ bs os. refl) (omega arith) c.reading.ensures)
