use Rattle.std.proofs.Common.{◌≡◌, Some, not, sym, ap, ◌∙◌}
use Rattle.std.specs.Option.{option_copied_mut}
use Rattle.argo_base.specs.declared.errno.Errno.TheVariants.{NoDev}
use Rattle.argo_model.specs.declared.action.Action.TheVariants.{Query}
use Rattle.argo_model.specs.Rules.State.{Live, domain_of, set_domain, signal_all}
use Rattle.argo_model.specs.Rules.Effects.{Change, change_in, refuse_if}
use Rattle.domains.specs.Domain.{with_left}
use Rattle.domains.proofs.WorldLaws.{in_any_case, set_domain-same, changed, calls, query_quiet}
use Rattle.argo_model.specs.Rules.Query.{query_domain}
use Rattle.domains.proofs.domains.Domains.query.Goals as goal

pub returns-in_err-outcome-clause-err : goal.returns-in_err-outcome-clause-err
returns-in_err-outcome-clause-err g c =
    let s = c.args.self.now in
    let d = c.args.to in
    let x = c.in-Some-get_mut.owner.now in
    let new = c.answer.new.self in
    let there : domain_of s d ≡ Some x = ap (λ s. domain_of s d) (sym c.self.view_is) ∙ sym c.get_mut.ensures.value ∙ ap option_copied_mut c.in-Some-get_mut.is in
    let left = ap (λ s. set_domain s d new) c.self.view_is in
    in_any_case c.from_residual.result (left ∙ ap (set_domain s d) c.in_err-outcome.ensures.err ∙ set_domain-same s d x there)

pub returns-clause-ok : goal.returns-clause-ok
returns-clause-ok g c =
    let s = c.args.self.now in
    let d = c.args.dom in
    let to = c.args.to in
    let port = c.args.to_port in
    let need = c.args.need in
    let x = c.in-Some-get_mut.owner.now in
    let new = c.answer.new.self in
    let there : domain_of s to ≡ Some x = ap (λ s. domain_of s to) (sym c.self.view_is) ∙ sym c.get_mut.ensures.value ∙ ap option_copied_mut c.in-Some-get_mut.is in
    let left = ap (λ s. set_domain s to new) c.self.view_is in
    let caller = calls s d c.args.generation c.in-Some.on (sym c.caller.ensures ∙ c.in-Some.is) in
    let ch : Change Live = query_domain d port need (Some x) in
    let e = c.in_ok-outcome.ensures in
    caller.acts (Query to port need)
    ∙ ap (λ b. change_in s to (refuse_if (not b) NoDev (query_domain d port need (domain_of s to)))) (caller.is_on ∙ c.if-not-on.false)
    ∙ ap (λ o. change_in s to (query_domain d port need o)) there
    ∙ changed s to x ch there
    ∙ ap (λ ds. record { outcome = ch.outcome; state = signal_all (set_domain s to (with_left x ch.left)) ds }) (query_quiet d port need x)
    ∙ ap (λ o. record { outcome = o; state = set_domain s to (with_left x ch.left) }) (sym e.outcome)
    ∙ ap (λ t. record { outcome = c.in_ok-outcome.outcome; state = t }) (ap (set_domain s to) (sym e.left) ∙ sym left)
