use Rattle.std.proofs.Common.{◌≡◌, ◌==◌, true, refl, ap, sym, ◌∙◌}
use Rattle.line_phase.specs.declared.reads.NewRing.{NewRing}
use Rattle.line_phase.specs.Cursor.{pieces_left}
use Rattle.argo_model.specs.Programs.Register.{is_register_head}
use Rattle.argo_abi.specs.declared.register_ring.RegisterRing.{RegisterRing}
use Rattle.line_phase.specs.Registering.{is_lawful_head}
use Rattle.line_phase.proofs.RegisterLaws.{pages_lead}
use Rattle.line_phase.proofs.register.register.Goals as goal

pub returns : goal.returns
returns c =
    let bytes = c.args.bytes.now in
    let head = c.register_ring-head.result in
    let is = c.register_ring-head.ensures in
    let lawful : is_lawful_head c.args.count head ≡ true = cc in
    let fits : is_register_head c.args.count bytes ≡ true = ap (λ (h : RegisterRing). is_lawful_head c.args.count h) (sym is) ∙ lawful in
    let ring : NewRing = record { port = head.aport; partner = head.partner_id; len = head.len; fail_exist = c.args.flags == 1 } in
    pages_lead (pieces_left c.over-rest.result) c.args.list c.args.count c.args.flags bytes ring c.reading.result
    fits (ap (λ (h : RegisterRing). h.aport) is) (ap (λ (h : RegisterRing). h.partner_id) is) (ap (λ (h : RegisterRing). h.len) is) refl c.over-rest.ensures.pieces c.reading.ensures
