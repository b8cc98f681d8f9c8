use Rattle.std.proofs.Common.{◌≡◌, ℕ, ◌^◌, Some, true, is_some, is_none, option_and_then, sym, ap, ◌∙◌, arith}
use Rattle.std.specs.Option.{option_copied_mut}
use Rattle.argo_base.specs.declared.errno.Errno.TheVariants.{Srch, Exist}
use Rattle.argo_model.specs.declared.action.Outcome.TheVariants.{Done, Refused}
use Rattle.argo_model.specs.Rules.State.{State, Domain, domain_of, set_domain, change_found}
use Rattle.argo_model.specs.Rules.Effects.{refuse_if, leaving}
use Rattle.argo_model.specs.Rules.Destroy.{create, change_all, next_domain}
use Rattle.section_world.proofs.YoungLaws.{young_found}
use Rattle.domains.proofs.WorldLaws.{in_any_case, set_domain-same, still_some, young_generation}
use Rattle.domains.proofs.domains.Domains.create.Goals as goal

-- a domain that is alive is not made anew
exists : (s : State) (d : ℕ) (x : Domain) → domain_of s d ≡ Some x → is_some x.life ≡ true → create s d ≡ record { outcome = Refused Exist; state = s }
exists s d x there alive =
    ap (λ o. change_all s (refuse_if (is_none o) Srch (refuse_if (is_some (option_and_then (λ (x : Domain). x.life) o)) Exist (leaving Done (change_found s d next_domain o))))) there
    ∙ ap (λ b. change_all s (refuse_if b Exist (leaving Done (set_domain s d (next_domain x))))) alive

pub returns-then-is_some-clause-ok : goal.returns-then-is_some-clause-ok
returns-then-is_some-clause-ok g c =
    let s = c.args.self.now in
    let d = c.args.dom in
    let x = c.in-Some.domain.now in
    let there : domain_of s d ≡ Some x = ap (λ s. domain_of s d) (sym c.self.view_is) ∙ sym c.get_mut.ensures.value ∙ ap option_copied_mut c.in-Some.is in
    let left = ap (λ s. set_domain s d x) c.self.view_is ∙ set_domain-same s d x there in
    let alive : is_some x.life ≡ true = ap (λ (x : Domain). is_some x.life) (sym c.domain.view_is) ∙ still_some g.L.LiveDomain.live c.domain.inside.life ∙ sym c.is_some.ensures ∙ c.if-is_some.true in
    exists s d x there alive ∙ ap (λ t. record { outcome = Refused Exist; state = t }) (sym left)

pub begin_anew-requires : goal.begin_anew-requires
begin_anew-requires g c =
    let s = c.args.self.now in
    let d = c.args.dom in
    let x = c.in-Some.domain.now in
    let there : domain_of s d ≡ Some x = ap (λ s. domain_of s d) (sym c.self.view_is) ∙ sym c.get_mut.ensures.value ∙ ap option_copied_mut c.in-Some.is in
    let few = young_generation (2 ^ 62) x (young_found (2 ^ 62) s d x there c.requires.young) in
    record { young = omega (arith, few) }

pub returns-in_err-begin_anew-clause-err : goal.returns-in_err-begin_anew-clause-err
returns-in_err-begin_anew-clause-err g c =
    let s = c.args.self.now in
    let d = c.args.dom in
    let x = c.in-Some.domain.now in
    let new = c.begin_anew.new.self in
    let there : domain_of s d ≡ Some x = ap (λ s. domain_of s d) (sym c.self.view_is) ∙ sym c.get_mut.ensures.value ∙ ap option_copied_mut c.in-Some.is in
    let left = ap (λ s. set_domain s d new) c.self.view_is in
    in_any_case c.from_residual.result (left ∙ ap (set_domain s d) c.in_err-begin_anew.ensures.err ∙ set_domain-same s d x there)
