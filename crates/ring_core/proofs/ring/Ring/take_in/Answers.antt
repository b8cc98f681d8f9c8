use Rattle.std.proofs.Common.{◌≡◌, ◌&&◌, ◌++◌, ◌∷◌, [], if◌then◌else◌, not, IsTrue, length, refl, sym, ap, ◌∙◌, subst, arith}
use Rattle.std.proofs.lemmas.Bool.{false≢true}
use Rattle.argo_base.specs.Slots.{fits, is_too_big, is_place, place_after, room}
use Rattle.argo_model.specs.Rules.Deliver.{with_message}
use Rattle.argo_model.specs.Rules.Messages.{spell}
use Rattle.argo_model.specs.Rules.RingBytes.{free, write_slots, write_tx}
use Rattle.guest_pages.specs.Rows.{row_bytes, numbers_of}
use Rattle.ring_space.proofs.RunLaws.{count_stays}
use Rattle.ring_core.specs.Held.{Held, paged}
use Rattle.ring_core.proofs.CleanLaws.{clean_accepted}
use Rattle.ring_core.proofs.OfferLaws.{room_says, next_place}
use Rattle.ring_core.proofs.RingLaws.{fits_row, clean_like, made, same_made}
use Rattle.ring_core.proofs.ring.Ring.take_in.Goals as goal

pub invariant_of-self : goal.invariant_of-self
invariant_of-self c =
    let i = c.self.invariant in
    let r = c.self.inside in
    let m = c.args.message in
    let n = length m.body in
    let test = subst (λ (h : Held). IsTrue (not (is_too_big h.len n) && fits (free (paged 0 h)) n)) (sym c.self.view_is) c.requires.room in
    let less = (room_says r.len n _ test).less in
    let next = c.advance-tx.ensures.is ∙ ap (λ k. place_after r.len r.tx (room k)) c.len.ensures in
    record {
      legal = i.legal;
      counted = count_stays r.row c.write_tx.new.row (c.write_tx.ensures.numbers ∙ c.write_message.ensures.numbers) ∙ i.counted;
      place = subst (λ t. IsTrue (is_place r.len t)) (sym next) (next_place r.len r.tx n i.legal i.place (omega arith));
      able = i.able;
      clean = λ h. absurd (false≢true (sym c.if-not-self.true ∙ h));
      dirty = i.dirty;
    }

pub invariant_of-self-2 : goal.invariant_of-self-2
invariant_of-self-2 c =
    let i = c.self.invariant in
    let r = c.self.inside in
    let m = c.args.message in
    let n = length m.body in
    let own = row_bytes r.row in
    let test = subst (λ (h : Held). IsTrue (not (is_too_big h.len n) && fits (free (paged 0 h)) n)) (sym c.self.view_is) c.requires.room in
    let has = room_says r.len n _ test in
    let less = has.less in
    let next = c.advance-tx.ensures.is ∙ ap (λ k. place_after r.len r.tx (room k)) c.len.ensures in
    let bytes = c.write_tx.ensures.bytes ∙ ap (write_tx c.advance-tx.result) c.write_message.ensures.bytes
    ∙ ap (λ t. write_tx t (write_slots r.len r.tx (spell m) own)) next in
    let f = fits_row r.len r.row i.legal i.counted c.write_message.ensures.whole in
    record {
      legal = i.legal;
      counted = count_stays r.row c.write_tx.new.row (c.write_tx.ensures.numbers ∙ c.write_message.ensures.numbers) ∙ i.counted;
      place = subst (λ t. IsTrue (is_place r.len t)) (sym next) (next_place r.len r.tx n i.legal i.place (omega arith));
      able = i.able;
      clean = λ h.
          clean_like r.len next c.push_reserved.ensures bytes
          (clean_accepted r.len r.tx r.untaken.messages own m f i.place has.fits_now (i.clean c.if-not-self.false));
      dirty = λ h. absurd (false≢true (sym h ∙ c.if-not-self.false));
    }

pub returns-clause-left : goal.returns-clause-left
returns-clause-left c = λ serial.
    let r = c.self.inside in
    let m = c.args.message in
    let own = row_bytes r.row in
    let next = c.advance-tx.ensures.is ∙ ap (λ k. place_after r.len r.tx (room k)) c.len.ensures in
    let bytes = c.write_tx.ensures.bytes ∙ ap (write_tx c.advance-tx.result) c.write_message.ensures.bytes
    ∙ ap (λ t. write_tx t (write_slots r.len r.tx (spell m) own)) next in
    subst (λ (h : Held).
    made serial r.len (numbers_of c.write_tx.new.row) c.advance-tx.result r.clean c.push_reserved.new.self.messages r.notices (row_bytes c.write_tx.new.row)
    ≡ with_message (paged serial h) m) c.self.view_is
    (same_made serial r.len (c.write_tx.ensures.numbers ∙ c.write_message.ensures.numbers) next refl
    (c.push_reserved.ensures ∙ ap (λ b. if b then r.untaken.messages ++ m ∷ [] else r.untaken.messages) (sym c.if-not-self.false)) refl bytes)
