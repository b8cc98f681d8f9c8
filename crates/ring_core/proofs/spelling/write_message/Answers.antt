use Rattle.std.proofs.Common.{◌≡◌, ◌+◌, ◌*◌, ◌≤◌, IsTrue, length, refl, sym, ap, ◌∙◌, subst, arith}
use Rattle.argo_base.specs.Layout.{addr_bytes, message_head_bytes}
use Rattle.argo_base.specs.Slots.{is_place, place_after}
use Rattle.argo_base.proofs.SlotLaws.{legal, place, is_place_from, place_after_place, page_count_holds}
use Rattle.argo_model.specs.Rules.RingBytes.{write_slots}
use Rattle.guest_pages.specs.Rows.{row_bytes}
use Rattle.guest_pages.proofs.FlatLaws.{length-row_bytes}
use Rattle.ring_space.proofs.RunLaws.{count_stays}
use Rattle.ring_core.proofs.SpellingLaws.{write_slots-head}
use Rattle.ring_core.proofs.spelling.write_message.Goals as goal

pub write_run-requires-2-clause-place : goal.write_run-requires-2-clause-place
write_run-requires-2-clause-place c =
    let len = c.args.len in
    let l = legal len c.requires.legal in
    let least = l.least in
    subst (λ at. IsTrue (is_place len at)) (sym c.place_after-rest.ensures.is)
    (is_place_from len (place_after len c.args.at 16) (place_after_place len c.args.at 16 (place len c.args.at c.requires.place) l.even refl (omega arith)))

pub write_run-requires-2-clause-pages : goal.write_run-requires-2-clause-pages
write_run-requires-2-clause-pages c = count_stays c.args.row.now c.write_run.new.row c.write_run.ensures.numbers ∙ c.requires.pages

pub returns-clause-bytes : goal.returns-clause-bytes
returns-clause-bytes c =
    let m = c.args.message.now in
    let len = c.args.len in
    let at = c.args.at in
    let own = row_bytes c.args.row.now in
    let head = message_head_bytes (length m.body + 16) (addr_bytes m.port m.src 0) m.kind in
    let most : length m.body ≤ len = let r = c.requires.room in omega arith in
    let sized : length own ≡ 4096 * length c.args.row.now = length-row_bytes c.args.row.now c.count.ensures.whole in
    let within : 64 + len ≤ length own = let h = page_count_holds len in let p = c.requires.pages in omega arith in
    c.write_run-2.ensures.bytes
    ∙ ap (λ o. write_slots len c.place_after-rest.result c.as_slice-2.result.now o) (c.write_run.ensures.bytes ∙ ap (λ b. write_slots len at b own) (c.as_slice.ensures ∙ c.head_of-head.ensures))
    ∙ ap (λ b. write_slots len c.place_after-rest.result b (write_slots len at head own)) c.as_slice-2.ensures
    ∙ ap (λ a. write_slots len a m.body (write_slots len at head own)) c.place_after-rest.ensures.is
    ∙ sym (write_slots-head len at head m.body own c.requires.legal c.requires.place refl most within)
