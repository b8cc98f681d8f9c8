use Rattle.std.proofs.Common.{◌≡◌, false, nat_lt, refl, arith}
use Rattle.std.proofs.lemmas.Bool.Decides.{nat_tests}
use Rattle.argo_base.specs.declared.errno.Errno.TheVariants.{Inval, Fault}
use Rattle.argo_model.specs.Programs.Asks.{read, refusal}
use Rattle.argo_model.specs.Programs.Register.{register_head}
use Rattle.line_phase.specs.Cursor.{pieces_left}
use Rattle.line_phase.specs.declared.phase.Reader.TheVariants.{Register}
use Rattle.line_phase.specs.declared.reads.RegisterRead.TheVariants.{Head}
use Rattle.line_phase.specs.declared.phase.Followed.TheVariants.{To}
use Rattle.line_phase.proofs.LeadLaws.{leads_passed_at_once, reads_lead}
use Rattle.line_phase.proofs.call.Call.register_ring.Goals as goal

pub returns : goal.returns
returns c =
    let a = c.args.self.now in
    let fit : nat_lt 1 a.a4 ≡ false = grind (arith, nat_tests) in
    leads_passed_at_once (nat_lt 1 a.a4) Inval (read a.a1 12 (register_head a.a2 a.a3 a.a4)) 13 (To c.reading.result) fit
    (reads_lead (pieces_left c.over.result) a.a1 12 (Register (Head a.a2 a.a3 a.a4)) c.reading.result (refusal Fault) (register_head a.a2 a.a3 a.a4) 13
    c.over.ensures.pieces (λ os. refl) (λ bs os. refl) (omega arith) c.reading.ensures)
