use Rattle.std.proofs.Common.{◌≡◌, ℕ, refl, sym, ap, ◌∙◌, subst}
use Rattle.argo_model.specs.declared.action.Load.{Load}
use Rattle.argo_model.specs.Rules.Deliver.{Offer, offer}
use Rattle.argo_model.specs.Rules.Effects.{after}
use Rattle.argo_model.specs.Rules.RingBytes.{PagedRing}
use Rattle.guest_pages.proofs.FlatLaws.{length-row_bytes}
use Rattle.ring_core.specs.Held.{Held, paged}
use Rattle.paged_live.specs.Parts.{StandsStill}
use Rattle.paged_live.proofs.ActLaws.{offer_pages}
use Rattle.paged_live.proofs.HomeLaws.{AreWhole}
use Rattle.paged_live.proofs.offers.offer_to.Goals as goal

pub returns-in_err-reserve_log-clause-still : goal.returns-in_err-reserve_log-clause-still
returns-in_err-reserve_log-clause-still c =
    let old = c.args.ring.now in
    let is : c.reserve_log.new.self ≡ record old { has_room = c.reserve_log.new.self.has_room } = c.reserve_log.ensures.left in
    subst (StandsStill old) (sym is) (record { id = refl; pages = refl; sized = length-row_bytes old.row (subst AreWhole c.row.ensures c.count.ensures.whole) })

pub returns-clause-outcome : goal.returns-clause-outcome
returns-clause-outcome c owner serial =
    let old = c.args.ring.now in
    let i = c.sent.inside in
    let of : Load → Offer = λ load. record { sender = i.sender; port = i.port; kind = i.kind; load = load } in
    let taken : Offer = of c.replace-load.result in
    let whole : taken ≡ c.args.sent.now = ap of c.replace-load.ensures.value ∙ c.sent.view_is in
    let same : paged serial c.reserve_log.new.self ≡ paged serial old = ap (paged serial) c.reserve_log.ensures.left in
    c.outcome_of.ensures ∙ c.accept-accept.ensures.outcome owner serial
    ∙ ap (λ p. (offer p owner taken).outcome) same
    ∙ ap (λ (o : Offer). (offer (paged serial old) owner o).outcome) whole

pub returns-clause-left : goal.returns-clause-left
returns-clause-left c owner serial =
    let old = c.args.ring.now in
    let i = c.sent.inside in
    let of : Load → Offer = λ load. record { sender = i.sender; port = i.port; kind = i.kind; load = load } in
    let taken : Offer = of c.replace-load.result in
    let whole : taken ≡ c.args.sent.now = ap of c.replace-load.ensures.value ∙ c.sent.view_is in
    let same : paged serial c.reserve_log.new.self ≡ paged serial old = ap (paged serial) c.reserve_log.ensures.left in
    c.accept-accept.ensures.left owner serial
    ∙ ap (λ p. after p (offer p owner taken)) same
    ∙ ap (λ (o : Offer). after (paged serial old) (offer (paged serial old) owner o)) whole

pub returns-clause-still : goal.returns-clause-still
returns-clause-still c =
    let old = c.args.ring.now in
    let i = c.sent.inside in
    let of : Load → Offer = λ load. record { sender = i.sender; port = i.port; kind = i.kind; load = load } in
    let taken : Offer = of c.replace-load.result in
    let same : (serial : ℕ) → paged serial c.reserve_log.new.self ≡ paged serial old = λ serial. ap (paged serial) c.reserve_log.ensures.left in
    let new = c.accept-accept.new.self in
    record {
      id = c.accept-accept.ensures.id ∙ ap (λ (h : Held). h.id) c.reserve_log.ensures.left;
      pages = ap (λ (p : PagedRing). p.ring.pages) (c.accept-accept.ensures.left 0 0) ∙ offer_pages 0 taken (paged 0 c.reserve_log.new.self) ∙ ap (λ (p : PagedRing). p.ring.pages) (same 0);
      sized = length-row_bytes new.row (subst AreWhole c.row-2.ensures c.count-2.ensures.whole);
    }
