use Rattle.std.proofs.Common.{refl, arith, sym, ◌∙◌}
use Rattle.argo_base.specs.declared.errno.Errno.TheVariants.{Inval, Fault}
use Rattle.argo_model.specs.Programs.Asks.{read, refusal}
use Rattle.argo_model.specs.Programs.Register.{unregister_head, has_more}
use Rattle.line_phase.specs.Cursor.{pieces_left}
use Rattle.line_phase.specs.declared.phase.Reader.TheVariants.{Register}
use Rattle.line_phase.specs.declared.reads.RegisterRead.TheVariants.{Old}
use Rattle.line_phase.specs.declared.phase.Followed.TheVariants.{To}
use Rattle.line_phase.proofs.LeadLaws.{leads_passed_at_once, reads_lead}
use Rattle.line_phase.proofs.call.Call.unregister_ring.Goals as goal

pub returns : goal.returns
returns c =
    let a = c.args.self.now in
    leads_passed_at_once (has_more a.a2 a.a3 a.a4) Inval (read a.a1 8 unregister_head) 3 (To c.reading.result) (sym c.has_more.ensures ∙ c.if-has_more.false)
    (reads_lead (pieces_left c.over.result) a.a1 8 (Register Old) c.reading.result (refusal Fault) unregister_head 3
    c.over.ensures.pieces (λ os. refl) (λ bs os. refl) (omega arith) c.reading.ensures)
