use Rattle.std.proofs.Common.{◌≡◌, ◌^◌, Some, None, sym, ap, ◌∙◌}
use Rattle.std.specs.Option.{option_copied_mut}
use Rattle.argo_model.specs.declared.action.Action.TheVariants.{Register}
use Rattle.argo_model.specs.Rules.State.{Live, domain_of, set_domain, signal_all}
use Rattle.argo_model.specs.Rules.Effects.{Change, change_in}
use Rattle.argo_model.specs.Rules.Register.{register_own}
use Rattle.domains.specs.World.{register_change}
use Rattle.domains.specs.Domain.{register_if_live, with_left}
use Rattle.section_world.proofs.YoungLaws.{young_found}
use Rattle.domains.proofs.WorldLaws.{in_any_case, set_domain-same, changed, calls, registers_own, registered_by, young_enough}
use Rattle.domains.proofs.domains.Domains.register.Goals as goal

pub returns-in_default-get_mut-clause-ok : goal.returns-in_default-get_mut-clause-ok
returns-in_default-get_mut-clause-ok g c =
    let s = c.args.self.now in
    let d = c.args.dom in
    let absent : domain_of s d ≡ None = ap (λ s. domain_of s d) (sym c.self.view_is) ∙ sym c.get_mut.ensures.value ∙ ap option_copied_mut c.in_default-get_mut.is in
    let here = (calls s d c.args.generation c.in-Some.on (sym c.caller.ensures ∙ c.in-Some.is)).here in
    cc

pub register-requires-clause-young : goal.register-requires-clause-young
register-requires-clause-young g c =
    let s = c.args.self.now in
    let d = c.args.dom in
    let x = c.in-Some-get_mut.domain.now in
    let there : domain_of s d ≡ Some x = ap (λ s. domain_of s d) (sym c.self.view_is) ∙ sym c.get_mut.ensures.value ∙ ap option_copied_mut c.in-Some-get_mut.is in
    young_enough x (young_found (2 ^ 62) s d x there c.requires.young)

pub returns-in_err-change-clause-err : goal.returns-in_err-change-clause-err
returns-in_err-change-clause-err g c =
    let s = c.args.self.now in
    let d = c.args.dom in
    let x = c.in-Some-get_mut.domain.now in
    let new = c.register.new.self in
    let there : domain_of s d ≡ Some x = ap (λ s. domain_of s d) (sym c.self.view_is) ∙ sym c.get_mut.ensures.value ∙ ap option_copied_mut c.in-Some-get_mut.is in
    let left = ap (λ s. set_domain s d new) c.self.view_is in
    in_any_case c.from_residual.result (left ∙ ap (set_domain s d) c.in_err-change.ensures.err ∙ set_domain-same s d x there)

pub returns-clause-ok : goal.returns-clause-ok
returns-clause-ok g c =
    let s = c.args.self.now in
    let d = c.args.dom in
    let r = c.args.r in
    let x = c.in-Some-get_mut.domain.now in
    let new = c.register.new.self in
    let there : domain_of s d ≡ Some x = ap (λ s. domain_of s d) (sym c.self.view_is) ∙ sym c.get_mut.ensures.value ∙ ap option_copied_mut c.in-Some-get_mut.is in
    let left = ap (λ s. set_domain s d new) c.self.view_is in
    let caller = calls s d c.args.generation c.in-Some.on (sym c.caller.ensures ∙ c.in-Some.is) in
    let here = caller.here in
    let lives = caller.lives in
    let same : x.life ≡ Some caller.live = cc in
    let ch : Change Live = register_if_live x.life r.key r.len r.pages r.fail_exist in
    let e = c.in_ok-change.ensures in
    caller.acts (Register r.key.port r.key.partner r.len r.pages r.fail_exist)
    ∙ ap (change_in s d) (registers_own s caller.domain caller.live r
    (sym c.is_missing.ensures ∙ c.if-is_missing.false) (caller.is_on ∙ c.if-not-on.false) (sym c.is_off.ensures ∙ c.if-is_off.false))
    ∙ ap (λ life. change_in s d (register_if_live life r.key r.len r.pages r.fail_exist)) (sym same)
    ∙ changed s d x ch there
    ∙ ap (λ o. record { outcome = o; state = signal_all (set_domain s d (with_left x ch.left)) ch.signals }) (sym e.outcome)
    ∙ ap (λ t. record { outcome = c.in_ok-change.change.outcome; state = t })
    (ap (λ y. signal_all (set_domain s d y) ch.signals) (sym e.left)
    ∙ ap (signal_all (set_domain s d new)) (sym e.signals)
    ∙ ap (λ t. signal_all t c.in_ok-change.change.signals.items) (sym left)
    ∙ ap (signal_all (set_domain c.self.inside.domains d new)) (sym c.as_slice.ensures.value)
    ∙ sym c.signal_all.ensures)

pub returns-clause-signals : goal.returns-clause-signals
returns-clause-signals g c =
    let s = c.args.self.now in
    let d = c.args.dom in
    let r = c.args.r in
    let x = c.in-Some-get_mut.domain.now in
    let there : domain_of s d ≡ Some x = ap (λ s. domain_of s d) (sym c.self.view_is) ∙ sym c.get_mut.ensures.value ∙ ap option_copied_mut c.in-Some-get_mut.is in
    let caller = calls s d c.args.generation c.in-Some.on (sym c.caller.ensures ∙ c.in-Some.is) in
    let here = caller.here in
    let lives = caller.lives in
    let same : x.life ≡ Some caller.live = cc in
    let own : register_change s caller.domain caller.live r ≡ register_own caller.live r.key r.len r.pages r.fail_exist =
    registers_own s caller.domain caller.live r
    (sym c.is_missing.ensures ∙ c.if-is_missing.false) (caller.is_on ∙ c.if-not-on.false) (sym c.is_off.ensures ∙ c.if-is_off.false) in
    c.in_ok-change.ensures.signals
    ∙ ap (λ life. (register_if_live life r.key r.len r.pages r.fail_exist).signals) same
    ∙ ap (λ ch. ch.signals) (sym own)
    ∙ sym (registered_by s d c.args.generation caller.domain caller.live r here caller.found)
