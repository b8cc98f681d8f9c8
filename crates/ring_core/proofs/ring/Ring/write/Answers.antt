use Rattle.std.proofs.Common.{◌≡◌, ℕ, ◌+◌, ◌*◌, ◌<◌, ◌≤◌, ◌&&◌, ◌==◌, if◌then◌else◌, None, length, refl, sym, ap, ◌∙◌, subst, arith}
use Rattle.argo_base.specs.Layout.{u32_at}
use Rattle.argo_base.specs.Slots.{page_count}
use Rattle.argo_base.specs.Splice.{splice}
use Rattle.argo_model.specs.Rules.Puts.{taken_by}
use Rattle.argo_model.specs.Rules.RingBytes.{rx_word}
use Rattle.argo_model.specs.Rules.State.{Ring}
use Rattle.guest_pages.specs.Rows.{row_bytes, numbers_of}
use Rattle.ring_space.proofs.RunLaws.{count_stays}
use Rattle.ring_core.specs.Held.{Held, paged}
use Rattle.ring_core.specs.Puts.{put_in}
use Rattle.ring_core.proofs.RingLaws.{fits_on, clean_like, made, same_made, put_leaves_clean, put_leaves_dirty, put_is}
use Rattle.ring_core.proofs.ring.Ring.write.Goals as goal

pub invariant_of-self-2 : goal.invariant_of-self-2
invariant_of-self-2 c =
    let i = c.self.invariant in
    let r = c.self.inside in
    let own = row_bytes r.row in
    let at = c.args.at in
    let bytes = c.args.bytes.now in
    let ms = r.untaken.messages in
    let moved = c.moves-moved.result in
    let touched = c.touches-touched.result in
    let counted = i.counted in
    let sized = c.write_at-2.ensures.whole in
    let low = subst (λ (h : Held). at < 4096 * page_count h.len) (sym c.self.view_is) c.requires.inside in
    let in_page = c.requires.in_page in
    let inside : at + length bytes ≤ length own = omega arith in
    let f = fits_on r.len own (length r.row) i.legal sized counted in
    let takes =
    sym (c.moves-moved.ensures.is
    ∙ ap (λ (rx : ℕ). if (at == 0) && (length bytes == 4) then taken_by r.len rx c.messages.result.now.items (u32_at bytes 0) else None) c.rx_word-rx.ensures
    ∙ ap (λ us. if (at == 0) && (length bytes == 4) then taken_by r.len (rx_word own) us (u32_at bytes 0) else None) c.messages.ensures) in
    let touch = sym c.touches-touched.ensures in
    let k = c.keep-self-inside.ensures in
    record {
      legal = i.legal;
      counted = count_stays r.row c.write_at-2.new.row c.write_at-2.ensures.numbers ∙ counted;
      place = i.place;
      able = i.able;
      clean = λ h.
          clean_like r.len refl k.messages c.write_at-2.ensures.bytes
          (put_leaves_clean r.len r.tx ms own bytes at moved touched f inside takes touch (i.clean c.if-not-self.false) (sym k.clean ∙ h));
      dirty = λ h. k.messages ∙ put_leaves_dirty ms moved touched (sym k.clean ∙ h);
    }

pub returns-clause-left : goal.returns-clause-left
returns-clause-left c = λ serial.
    let r = c.self.inside in
    let own = row_bytes r.row in
    let at = c.args.at in
    let bytes = c.args.bytes.now in
    let ms = r.untaken.messages in
    let takes =
    sym (c.moves-moved.ensures.is
    ∙ ap (λ (rx : ℕ). if (at == 0) && (length bytes == 4) then taken_by r.len rx c.messages.result.now.items (u32_at bytes 0) else None) c.rx_word-rx.ensures
    ∙ ap (λ us. if (at == 0) && (length bytes == 4) then taken_by r.len (rx_word own) us (u32_at bytes 0) else None) c.messages.ensures) in
    let k = c.keep-self-inside.ensures in
    let p = made serial r.len (numbers_of r.row) r.tx r.clean ms r.notices own in
    let put = put_is p at bytes c.moves-moved.result c.touches-touched.result c.if-not-self.false takes (sym c.touches-touched.ensures) in
    subst (λ (h : Held).
    made serial r.len (numbers_of c.write_at-2.new.row) r.tx c.keep-self-inside.result c.keep-self-inside.new.log.messages r.notices (row_bytes c.write_at-2.new.row)
    ≡ put_in (paged serial h) at bytes) c.self.view_is
    (same_made serial r.len c.write_at-2.ensures.numbers refl k.clean k.messages refl c.write_at-2.ensures.bytes
    ∙ ap (λ (x : Ring). record { ring = x; own = splice own at bytes }) (sym put))
