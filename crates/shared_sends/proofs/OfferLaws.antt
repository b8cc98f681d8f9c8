-- Laws of what a ring answers to an offer: one of the outcomes that it may have, and one that fits into an entry.
use Rattle.std.proofs.Common.{◌≡◌, ℕ, ◌==◌, ◌≤◌, nat_le, Bool, true, false, ◌||◌, if◌then◌else◌, [], ◌∷◌, length, IsTrue, refl, sym, ap, subst, arith}
use Rattle.std.proofs.lemmas.Bool.Decides.{nat_tests}
use Rattle.argo_base.specs.declared.errno.Errno.{Errno}
use Rattle.argo_base.specs.declared.errno.Errno.TheVariants.{Again, Busy, MsgSize, Fault}
use Rattle.argo_base.specs.Errno.{number_of}
use Rattle.argo_base.specs.Limits.{longest_body}
use Rattle.argo_base.specs.Notices.{is_busy}
use Rattle.argo_base.specs.Slots.{fits, is_too_big}
use Rattle.argo_model.specs.declared.action.Load.{Load}
use Rattle.argo_model.specs.declared.action.Load.TheVariants.{Body, Faulted, Refused as RefusedLoad}
use Rattle.argo_model.specs.declared.action.Outcome.{Outcome}
use Rattle.argo_model.specs.declared.action.Outcome.TheVariants.{Refused}
use Rattle.argo_model.specs.Rules.Deliver.{Offer, offer, if_it_fits, with_notice, accepted, message_of}
use Rattle.argo_model.specs.Rules.Effects.{Change, refused, leaving, refuse_if}
use Rattle.argo_model.specs.Rules.Fit.{is_fit_load}
use Rattle.argo_model.specs.Rules.Outcomes.{is_refused}
use Rattle.argo_model.specs.Rules.RingBytes.{PagedRing, free}
use Rattle.argo_model.specs.Rules.Shorts.{short_of}
use Rattle.argo_board.specs.Journal.{IsOutcome}
use Rattle.ring_core.specs.Held.{Held, IsSaid, paged}
use Rattle.shared_sends.specs.Comes.{is_offered}

same_number : (n : ℕ) → (n == n) ≡ true
same_number n = grind (arith, nat_tests)

or_last : (a b : Bool) → b ≡ true → (a || b) ≡ true
or_last true b h = refl
or_last false b h = h

-- ---- where a body does not fit, the answer is one of three refusals

module _ (P : Outcome → Type 0) (big : P (Refused MsgSize)) (full : P (Refused Busy)) (later : P (Refused Again)) where
  if_fits_keeps : (p : PagedRing) (sender n : ℕ) (rest : Change PagedRing) → P rest.outcome → P (if_it_fits p sender n rest).outcome
  if_fits_keeps p sender n rest h = by (is_too_big p.ring.len n) (fits (free p) n) (is_busy p.ring.notices sender) where
    by : (a b c : Bool) → P (refuse_if a MsgSize (if b then rest else refuse_if c Busy (leaving (Refused Again) (with_notice sender n p)))).outcome
    by true b c = big
    by false true c = h
    by false false true = full
    by false false false = later

offer_can : (p : PagedRing) (owner : ℕ) (o : Offer) (load : Load) → o.load ≡ load → IsTrue (is_offered load (offer p owner (record o { load = load })).outcome)
offer_can p owner o (RefusedLoad e) is =
    or_last (is_refused (MsgSize ∷ Again ∷ Busy ∷ []) (Refused e) || false) (is_refused (e ∷ []) (Refused e)) (ap (λ (b : Bool). b || false) (same_number (number_of e)))
offer_can p owner o (Faulted n) is = if_fits_keeps (λ x. IsTrue (is_offered (Faulted n) x)) refl refl refl p o.sender n (refused Fault) refl
offer_can p owner o (Body bytes) is =
    if_fits_keeps (λ x. IsTrue (is_offered (Body bytes) x)) refl refl refl p o.sender (length bytes) (accepted p owner (message_of o bytes)) (same_number (length bytes))

refused_fits : (e : Errno) → IsOutcome (short_of (Refused e))
refused_fits e = (omega arith, λ four. absurd (omega (arith, four)))

at_most : (a b : ℕ) → nat_le a b ≡ true → a ≤ b
at_most a b h = grind (arith, nat_tests)

offer_fits : (p : PagedRing) (owner : ℕ) (o : Offer) (load : Load) → o.load ≡ load → IsTrue (is_fit_load load) → IsOutcome (short_of (offer p owner (record o { load = load })).outcome)
offer_fits p owner o (RefusedLoad e) is fit = refused_fits e
offer_fits p owner o (Faulted n) is fit =
    if_fits_keeps (λ x. IsOutcome (short_of x)) (refused_fits MsgSize) (refused_fits Busy) (refused_fits Again) p o.sender n (refused Fault) (refused_fits Fault)
offer_fits p owner o (Body bytes) is fit =
    if_fits_keeps (λ x. IsOutcome (short_of x)) (refused_fits MsgSize) (refused_fits Busy) (refused_fits Again) p o.sender (length bytes) (accepted p owner (message_of o bytes))
    (omega arith, λ _. at_most (length bytes) longest_body fit)

-- what a ring says to an offer
pub said_can : (h : Held) (o : Offer) (x : Outcome) → ((owner : ℕ) → IsSaid h x (λ p. (offer p owner o).outcome)) → IsTrue (is_offered o.load x)
said_can h o x said = subst (λ y. IsTrue (is_offered o.load y)) (sym (said 0 0)) (offer_can (paged 0 h) 0 o o.load refl)

pub said_fits : (h : Held) (o : Offer) (x : Outcome) → ((owner : ℕ) → IsSaid h x (λ p. (offer p owner o).outcome)) → IsTrue (is_fit_load o.load) → IsOutcome (short_of x)
said_fits h o x said fit = subst (λ y. IsOutcome (short_of y)) (sym (said 0 0)) (offer_fits (paged 0 h) 0 o o.load refl fit)
