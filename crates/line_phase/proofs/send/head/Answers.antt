use Rattle.std.proofs.Common.{List, ℕ, subst, ◌≡◌, ◌*◌, true, not, refl, ap, sym, ◌∙◌, arith}
use Rattle.argo_base.specs.declared.errno.Errno.TheVariants.{Inval, Perm, Fault}
use Rattle.argo_base.specs.Iovs.{iovs_at, verdict_of}
use Rattle.argo_model.specs.declared.action.Address.{Address}
use Rattle.line_phase.specs.declared.reads.SendRead.TheVariants.{Iovs}
use Rattle.line_phase.specs.declared.phase.Reader.TheVariants.{Send}
use Rattle.line_phase.specs.declared.phase.Followed.TheVariants.{To}
use Rattle.argo_abi.specs.declared.send_addr.SendAddr.{SendAddr}
use Rattle.argo_model.specs.Programs.Asks.{read, refusal, refuse_if}
use Rattle.line_phase.specs.Followed.{Leads}
use Rattle.argo_model.specs.Programs.Send.{send_head, send_iovs, is_send_addr, is_own_source}
use Rattle.line_phase.specs.Cursor.{pieces_left}
use Rattle.line_phase.specs.Sending.{clear_pads, own_source, send_judged_to}
use Rattle.line_phase.proofs.LeadLaws.{leads_passed, reads_lead}
use Rattle.line_phase.proofs.SendLaws.{judged_to, address_is}
use Rattle.line_phase.proofs.send.head.Goals as goal

pub returns : goal.returns
returns c =
    let addr = c.as_slice.result.now in
    let s = c.send_addr-addr.result in
    let decoded = c.send_addr-addr.ensures in
    let count = c.args.args.count in
    let a : Address = record { port = s.src.aport; to = s.dst.domain_id; to_port = s.dst.aport; kind = c.args.args.kind } in
    let is = address_is s.src.aport s.dst.domain_id s.dst.aport c.args.args.kind addr
    (ap (λ (x : SendAddr). x.src.aport) decoded) (ap (λ (x : SendAddr). x.dst.domain_id) decoded) (ap (λ (x : SendAddr). x.dst.aport) decoded) in
    let clear : clear_pads s ≡ true = cc in
    let fits : is_send_addr addr ≡ true = ap (λ (x : SendAddr). clear_pads x) (sym decoded) ∙ clear in
    let ours : own_source c.args.args.caller s ≡ true = cc in
    let own : is_own_source c.args.args.caller addr ≡ true = ap (λ (x : SendAddr). own_source c.args.args.caller x) (sym decoded) ∙ ours in
    let reads = read c.args.args.iovs (16 * count) (send_iovs count c.args.args.kind addr) in
    let P : List ℕ → Type 0 = λ bytes. Leads (send_head c.args.args.caller c.args.args.iovs count c.args.args.kind bytes) 4115 (To c.reading_into.result) in
    subst P c.as_slice.ensures.value
    (leads_passed (not (is_send_addr addr)) Inval (refuse_if (not (is_own_source c.args.args.caller addr)) Perm reads) 4115 (To c.reading_into.result) (ap not fits)
    (leads_passed (not (is_own_source c.args.args.caller addr)) Perm reads 4115 (To c.reading_into.result) (ap not own)
    (reads_lead (pieces_left c.over-rest.result) c.args.args.iovs (16 * count) (Send (Iovs count a)) c.reading_into.result (refusal Fault) (send_iovs count c.args.args.kind addr) 4115
    c.over-rest.ensures.pieces (λ os. refl)
    (λ bs os. judged_to c.args.args.kind addr (iovs_at bs count) (verdict_of (iovs_at bs count)) os ∙ ap (λ x. send_judged_to x (iovs_at bs count) (verdict_of (iovs_at bs count)) os) (sym is))
    (omega arith) c.reading_into.ensures)))
