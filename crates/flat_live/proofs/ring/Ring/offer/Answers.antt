use Rattle.std.proofs.Common.{◌≡◌, false, true, not, ◌&&◌, length, sym, ap, ◌∙◌}
use Rattle.argo_base.specs.Slots.{fits, is_too_big}
use Rattle.argo_model.specs.Rules.Deliver.{Offer}
use Rattle.argo_model.specs.Rules.RingBytes.{paged, free, laid}
use Rattle.flat_live.specs.Offers.{offered}
use Rattle.flat_live.proofs.OfferLaws.{ok_in_any_case, memory_kept, refused_own, faulted_own, away_own, accepted_own}
use Rattle.flat_live.proofs.ring.Ring.offer.Goals as goal

pub returns-in-Refused-clause-memory : goal.returns-in-Refused-clause-memory
returns-in-Refused-clause-memory c = λ owner.
    let load = ap (λ (o : Offer). o.load) (sym c.offer.view_is) ∙ c.in-Refused.is in
    memory_kept c.args.memory.now c.args.self.now (offered c.args.memory.now c.args.self.now owner c.args.offer.now) c.requires.there
    (refused_own c.args.memory.now c.args.self.now owner c.args.offer.now c.in-Refused.error load)

pub returns-then-not-has_room-clause-memory : goal.returns-then-not-has_room-clause-memory
returns-then-not-has_room-clause-memory c = ok_in_any_case c.turn_away.result (λ owner.
    let load = ap (λ (o : Offer). o.load) (sym c.offer.view_is) ∙ c.in-Faulted.is in
    memory_kept c.args.memory.now c.args.self.now (offered c.args.memory.now c.args.self.now owner c.args.offer.now) c.requires.there
    (faulted_own c.args.memory.now c.args.self.now owner c.args.offer.now c.in-Faulted.size load))

pub returns-in-Faulted-clause-memory : goal.returns-in-Faulted-clause-memory
returns-in-Faulted-clause-memory c = λ owner.
    let load = ap (λ (o : Offer). o.load) (sym c.offer.view_is) ∙ c.in-Faulted.is in
    memory_kept c.args.memory.now c.args.self.now (offered c.args.memory.now c.args.self.now owner c.args.offer.now) c.requires.there
    (faulted_own c.args.memory.now c.args.self.now owner c.args.offer.now c.in-Faulted.size load)

pub returns-then-not-has_room-2-clause-memory : goal.returns-then-not-has_room-2-clause-memory
returns-then-not-has_room-2-clause-memory c = ok_in_any_case c.turn_away-then-not-has_room-2.result (λ owner.
    let load = ap (λ (o : Offer). o.load) (sym c.offer.view_is) ∙ c.in-Body.is in
    let r = c.args.self.now in
    let none : (not (is_too_big r.len (length c.in-Body.body)) && fits (free (paged c.args.memory.now r)) (length c.in-Body.body)) ≡ false =
    ap (λ n. not (is_too_big r.len n) && fits (free (paged c.args.memory.now r)) n) (sym c.len.ensures)
    ∙ ap (λ m. not (is_too_big r.len c.len.result) && fits (free (paged m r)) c.len.result) (sym c.as_slice-2.ensures)
    ∙ sym c.has_room-2.ensures.is ∙ c.if-not-has_room-2.true in
    memory_kept c.args.memory.now r (offered c.args.memory.now r owner c.args.offer.now) c.requires.there
    (away_own c.args.memory.now r owner c.args.offer.now c.in-Body.body load none))

pub returns-clause-memory : goal.returns-clause-memory
returns-clause-memory c = λ owner.
    let load = ap (λ (o : Offer). o.load) (sym c.offer.view_is) ∙ c.in-Body.is in
    let r = c.args.self.now in
    let memory = c.args.memory.now in
    let o = c.args.offer.now in
    let room : (not (is_too_big r.len (length c.in-Body.body)) && fits (free (paged memory r)) (length c.in-Body.body)) ≡ true =
    ap (λ n. not (is_too_big r.len n) && fits (free (paged memory r)) n) (sym c.len.ensures)
    ∙ ap (λ m. not (is_too_big r.len c.len.result) && fits (free (paged m r)) c.len.result) (sym c.as_slice-2.ensures)
    ∙ sym c.has_room-2.ensures.is ∙ c.if-not-has_room-2.false in
    c.in_ok-accept.ensures.memory c.in-Body.body load
    ∙ ap (λ own. laid r.pages own memory)
    (sym (accepted_own memory r owner o c.in-Body.body load room))
