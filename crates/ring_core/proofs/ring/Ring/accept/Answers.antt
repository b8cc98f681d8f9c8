use Rattle.std.proofs.Common.{◌≡◌, ◌&&◌, true, not, length, sym, ap, ◌∙◌}
use Rattle.argo_base.specs.Slots.{fits, is_too_big}
use Rattle.argo_model.specs.declared.action.Load.TheVariants.{Body}
use Rattle.argo_model.specs.Rules.Deliver.{Offer, message_of, with_message}
use Rattle.argo_model.specs.Rules.RingBytes.{free}
use Rattle.ring_core.specs.Held.{paged}
use Rattle.ring_core.proofs.OfferLaws.{accepted_left}
use Rattle.ring_core.proofs.ring.Ring.accept.Goals as goal

pub returns-else-not-has_room-2-clause-left : goal.returns-else-not-has_room-2-clause-left
returns-else-not-has_room-2-clause-left c = λ owner serial.
    let h = c.args.self.now in
    let p = paged serial h in
    let body = c.in-Body.body in
    let load : c.args.offer.load ≡ Body body = ap (λ (o : Offer). o.load) (sym c.offer.view_is) ∙ c.in-Body.is in
    let fit : (not (is_too_big h.len (length body)) && fits (free p) (length body)) ≡ true =
    ap (λ n. not (is_too_big h.len n) && fits (free p) n) (sym c.len-size.ensures) ∙ sym c.has_room-in-Body.ensures ∙ c.if-not-has_room-2.false in
    c.take_in.ensures.left serial
    ∙ ap (λ (o : Offer). with_message p (message_of o body)) c.offer.view_is
    ∙ sym (accepted_left p owner c.args.offer body load fit)
