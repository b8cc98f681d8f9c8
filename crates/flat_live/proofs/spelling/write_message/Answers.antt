use Rattle.std.proofs.Common.{◌+◌, length, refl, sym, ap, ◌∙◌, subst, arith}
use Rattle.argo_base.specs.Layout.{addr_bytes, message_head_bytes}
use Rattle.argo_base.specs.Slots.{place_after}
use Rattle.argo_model.specs.Rules.RingBytes.{write_slots}
use Rattle.flat_live.specs.Memory.{IsLaid}
use Rattle.flat_live.proofs.SpellingLaws.{write_slots-head}
use Rattle.flat_live.proofs.spelling.write_message.Goals as goal

pub returns-clause-is : goal.returns-clause-is
returns-clause-is c = λ base own h.
    let m = c.args.message.now in
    let pages = c.args.pages.now in
    let len = c.args.len in
    let at = c.args.at in
    let head = message_head_bytes (length m.body + 16) (addr_bytes m.port m.src 0) m.kind in
    let sized = h.sized in
    let held = c.requires.held in
    let first = c.as_slice.ensures ∙ c.head_of-head.ensures in
    subst (λ x. IsLaid pages base x c.write_slots-2.new.memory)
    (ap (λ b. write_slots len c.place_after-rest.result b (write_slots len at c.as_slice.result.now own)) c.as_slice-2.ensures
    ∙ ap (λ a. write_slots len a m.body (write_slots len at c.as_slice.result.now own)) c.place_after-rest.ensures.is
    ∙ ap (λ b. write_slots len (place_after len at 16) m.body (write_slots len at b own)) first
    ∙ sym (write_slots-head len at head m.body own c.requires.legal c.requires.place refl (omega (arith, c.requires.room)) (omega (arith, sized, held))))
    (c.write_slots-2.ensures.is base (write_slots len at c.as_slice.result.now own) (c.write_slots.ensures.is base own h))
