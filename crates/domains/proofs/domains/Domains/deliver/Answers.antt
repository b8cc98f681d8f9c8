use Rattle.std.proofs.Common.{◌≡◌, Some, None, not, sym, ap, ◌∙◌}
use Rattle.std.specs.Option.{option_copied_mut}
use Rattle.argo_base.specs.declared.errno.Errno.TheVariants.{Srch, NoDev, ConnRefused}
use Rattle.argo_model.specs.declared.action.Outcome.TheVariants.{Refused}
use Rattle.argo_model.specs.declared.action.Action.TheVariants.{Deliver}
use Rattle.argo_model.specs.Rules.State.{Live, domain_of, set_domain, signal_all}
use Rattle.argo_model.specs.Rules.Effects.{Change, change_in, refuse_if}
use Rattle.domains.specs.Domain.{with_left}
use Rattle.section_world.specs.Acts.{caller_on}
use Rattle.domains.specs.World.{accepted_signals}
use Rattle.domains.proofs.WorldLaws.{in_any_case, set_domain-same, changed, calls, offer_signals_accepted}
use Rattle.argo_model.specs.Rules.Deliver.{Offer, offer_to_domain}
use Rattle.domains.proofs.domains.Domains.deliver.Goals as goal

pub returns-in_default-get_mut-clause-ok : goal.returns-in_default-get_mut-clause-ok
returns-in_default-get_mut-clause-ok g c =
    let s = c.args.self.now in
    let o = c.args.sent.now in
    let to = c.args.to in
    let port = c.args.to_port in
    let absent : domain_of s to ≡ None = ap (λ s. domain_of s to) (sym c.self.view_is) ∙ sym c.get_mut.ensures.value ∙ ap option_copied_mut c.in_default-get_mut.is in
    let caller = calls s o.sender c.args.generation c.in-Some.on (ap (λ (y : Offer). caller_on s y.sender c.args.generation) (sym c.sent.view_is) ∙ sym c.caller.ensures ∙ c.in-Some.is) in
    caller.acts (Deliver o.port to port o.kind o.load)
    ∙ ap (λ b. change_in s to (refuse_if (not b) Srch (refuse_if (not caller.domain.on) NoDev (offer_to_domain to port o (domain_of s to))))) (sym c.is_alive.ensures ∙ c.if-not-is_alive.false)
    ∙ ap (λ b. change_in s to (refuse_if (not b) NoDev (offer_to_domain to port o (domain_of s to)))) (caller.is_on ∙ c.if-not-on.false)
    ∙ ap (λ x. change_in s to (offer_to_domain to port o x)) absent
    ∙ ap (λ t. record { outcome = Refused ConnRefused; state = t }) (sym c.self.view_is)

pub returns-in_err-outcome-clause-err : goal.returns-in_err-outcome-clause-err
returns-in_err-outcome-clause-err g c =
    let s = c.args.self.now in
    let d = c.args.to in
    let x = c.in-Some-get_mut.receiver.now in
    let new = c.offer.new.self in
    let there : domain_of s d ≡ Some x = ap (λ s. domain_of s d) (sym c.self.view_is) ∙ sym c.get_mut.ensures.value ∙ ap option_copied_mut c.in-Some-get_mut.is in
    let left = ap (λ s. set_domain s d new) c.self.view_is in
    in_any_case c.from_residual.result (left ∙ ap (set_domain s d) c.in_err-outcome.ensures.err ∙ set_domain-same s d x there)

pub returns-clause-ok : goal.returns-clause-ok
returns-clause-ok g c =
    let s = c.args.self.now in
    let o = c.args.sent.now in
    let to = c.args.to in
    let port = c.args.to_port in
    let x = c.in-Some-get_mut.receiver.now in
    let new = c.offer.new.self in
    let there : domain_of s to ≡ Some x = ap (λ s. domain_of s to) (sym c.self.view_is) ∙ sym c.get_mut.ensures.value ∙ ap option_copied_mut c.in-Some-get_mut.is in
    let left = ap (λ s. set_domain s to new) c.self.view_is in
    let caller = calls s o.sender c.args.generation c.in-Some.on (ap (λ (y : Offer). caller_on s y.sender c.args.generation) (sym c.sent.view_is) ∙ sym c.caller.ensures ∙ c.in-Some.is) in
    let ch : Change Live = offer_to_domain to port o (Some x) in
    let e = c.in_ok-outcome.ensures in
    caller.acts (Deliver o.port to port o.kind o.load)
    ∙ ap (λ b. change_in s to (refuse_if (not b) Srch (refuse_if (not caller.domain.on) NoDev (offer_to_domain to port o (domain_of s to))))) (sym c.is_alive.ensures ∙ c.if-not-is_alive.false)
    ∙ ap (λ b. change_in s to (refuse_if (not b) NoDev (offer_to_domain to port o (domain_of s to)))) (caller.is_on ∙ c.if-not-on.false)
    ∙ ap (λ x. change_in s to (offer_to_domain to port o x)) there
    ∙ changed s to x ch there
    ∙ ap (λ ds. record { outcome = ch.outcome; state = signal_all (set_domain s to (with_left x ch.left)) ds }) (offer_signals_accepted to port o x)
    ∙ ap (λ out. record { outcome = out; state = signal_all (set_domain s to (with_left x ch.left)) (accepted_signals to out) }) (sym e.outcome)
    ∙ ap (λ t. record { outcome = c.in_ok-outcome.outcome; state = signal_all t (accepted_signals to c.in_ok-outcome.outcome) }) (ap (set_domain s to) (sym e.left) ∙ sym left)
    ∙ ap (λ t. record { outcome = c.in_ok-outcome.outcome; state = t }) (sym c.signal_if_accepted.ensures)
