use Rattle.std.proofs.Common.{◌≡◌, Some, sym, ap, ◌∙◌}
use Rattle.std.specs.Option.{option_copied_mut}
use Rattle.argo_model.specs.Rules.State.{Live, domain_of, set_domain, signal_all, life_in}
use Rattle.argo_model.specs.Rules.Effects.{Change}
use Rattle.domains.specs.Domain.{sweep_if_live, with_left}
use Rattle.domains.proofs.WorldLaws.{in_any_case, set_domain-same, changed, sweep_acts}
use Rattle.domains.specs.World.{swept_of}
use Rattle.domains.proofs.domains.Domains.sweep.Goals as goal

pub returns-in_err-change-clause-err : goal.returns-in_err-change-clause-err
returns-in_err-change-clause-err g c =
    let s = c.args.self.now in
    let d = c.args.dom in
    let x = c.in-Some.domain.now in
    let new = c.sweep.new.self in
    let there : domain_of s d ≡ Some x = ap (λ s. domain_of s d) (sym c.self.view_is) ∙ sym c.get_mut.ensures.value ∙ ap option_copied_mut c.in-Some.is in
    let left = ap (λ s. set_domain s d new) c.self.view_is in
    in_any_case c.from_residual.result (left ∙ ap (set_domain s d) c.in_err-change.ensures.err ∙ set_domain-same s d x there)

pub returns-clause-ok : goal.returns-clause-ok
returns-clause-ok g c =
    let s = c.args.self.now in
    let d = c.args.dom in
    let generation = c.args.generation in
    let x = c.in-Some.domain.now in
    let new = c.sweep.new.self in
    let there : domain_of s d ≡ Some x = ap (λ s. domain_of s d) (sym c.self.view_is) ∙ sym c.get_mut.ensures.value ∙ ap option_copied_mut c.in-Some.is in
    let left = ap (λ s. set_domain s d new) c.self.view_is in
    let ch : Change Live = sweep_if_live x (life_in generation x) c.args.serial in
    let e = c.in_ok-change.ensures in
    sweep_acts s d generation x c.args.serial there
    ∙ changed s d x ch there
    ∙ ap (λ o. record { outcome = o; state = signal_all (set_domain s d (with_left x ch.left)) ch.signals }) (sym e.outcome)
    ∙ ap (λ t. record { outcome = c.in_ok-change.change.outcome; state = t })
    (ap (λ y. signal_all (set_domain s d y) ch.signals) (sym e.left)
    ∙ ap (signal_all (set_domain s d new)) (sym e.signals)
    ∙ ap (λ t. signal_all t c.in_ok-change.change.signals.items) (sym left)
    ∙ ap (signal_all (set_domain c.self.inside.domains d new)) (sym c.as_slice.ensures.value)
    ∙ sym c.signal_all.ensures)

pub returns-clause-signals : goal.returns-clause-signals
returns-clause-signals g c =
    let s = c.args.self.now in
    let d = c.args.dom in
    let x = c.in-Some.domain.now in
    let there : domain_of s d ≡ Some x = ap (λ s. domain_of s d) (sym c.self.view_is) ∙ sym c.get_mut.ensures.value ∙ ap option_copied_mut c.in-Some.is in
    c.in_ok-change.ensures.signals ∙ sym (ap (swept_of c.args.generation c.args.serial) there)
