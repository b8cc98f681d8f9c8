use Rattle.std.proofs.Common.{◌≡◌, Some, sym, ap, ◌∙◌}
use Rattle.std.specs.Option.{option_copied_mut}
use Rattle.argo_model.specs.Rules.State.{Live, domain_of, set_domain, signal_all, life_in}
use Rattle.argo_model.specs.Rules.Effects.{Change}
use Rattle.domains.specs.Domain.{own_if_live, with_left}
use Rattle.domains.proofs.WorldLaws.{in_any_case, set_domain-same, changed, own_acts, own_quiet}
use Rattle.domains.proofs.domains.Domains.own_act.Goals as goal

pub returns-in_err-outcome-clause-err : goal.returns-in_err-outcome-clause-err
returns-in_err-outcome-clause-err g c =
    let s = c.args.self.now in
    let d = c.args.dom in
    let x = c.in-Some.domain.now in
    let new = c.act.new.self in
    let there : domain_of s d ≡ Some x = ap (λ s. domain_of s d) (sym c.self.view_is) ∙ sym c.get_mut.ensures.value ∙ ap option_copied_mut c.in-Some.is in
    let left = ap (λ s. set_domain s d new) c.self.view_is in
    in_any_case c.from_residual.result (left ∙ ap (set_domain s d) c.in_err-outcome.ensures.err ∙ set_domain-same s d x there)

pub returns-clause-ok : goal.returns-clause-ok
returns-clause-ok g c =
    let s = c.args.self.now in
    let d = c.args.dom in
    let generation = c.args.generation in
    let a = c.args.action in
    let x = c.in-Some.domain.now in
    let new = c.act.new.self in
    let there : domain_of s d ≡ Some x = ap (λ s. domain_of s d) (sym c.self.view_is) ∙ sym c.get_mut.ensures.value ∙ ap option_copied_mut c.in-Some.is in
    let left = ap (λ s. set_domain s d new) c.self.view_is in
    let ch : Change Live = own_if_live x.on (life_in generation x) a in
    let e = c.in_ok-outcome.ensures in
    own_acts s d generation x a c.requires.own there
    ∙ changed s d x ch there
    ∙ ap (λ ds. record { outcome = ch.outcome; state = signal_all (set_domain s d (with_left x ch.left)) ds }) (own_quiet x.on (life_in generation x) a)
    ∙ ap (λ o. record { outcome = o; state = set_domain s d (with_left x ch.left) }) (sym e.outcome)
    ∙ ap (λ t. record { outcome = c.in_ok-outcome.outcome; state = t }) (ap (set_domain s d) (sym e.left) ∙ sym left)
