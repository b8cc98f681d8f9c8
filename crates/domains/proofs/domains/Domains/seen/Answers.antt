use Rattle.std.proofs.Common.{◌≡◌, Some, refl, sym, ap, ◌∙◌}
use Rattle.std.specs.Option.{option_copied}
use Rattle.argo_model.specs.declared.action.Outcome.TheVariants.{Bytes}
use Rattle.argo_model.specs.Rules.Access.{fetch_of, outcome_unseen}
use Rattle.argo_model.specs.Rules.State.{domain_of}
use Rattle.domains.proofs.WorldLaws.{value_acts, error_acts}
use Rattle.domains.proofs.domains.Domains.seen.Goals as goal

pub returns-clause-bytes : goal.returns-clause-bytes
returns-clause-bytes g c =
    let s = c.args.self.now in
    let d = c.args.dom in
    let x = c.in-Some.domain.now in
    let there : domain_of s d ≡ Some x = ap (λ s. domain_of s d) (sym c.self.view_is) ∙ sym c.get.ensures.value ∙ ap option_copied c.in-Some.is in
    value_acts c.seen.result (λ bytes. Bytes bytes.now) s d c.args.generation x (fetch_of c.args.piece) refl there c.seen.ensures.bytes

pub returns-clause-unseen : goal.returns-clause-unseen
returns-clause-unseen g c =
    let s = c.args.self.now in
    let d = c.args.dom in
    let x = c.in-Some.domain.now in
    let there : domain_of s d ≡ Some x = ap (λ s. domain_of s d) (sym c.self.view_is) ∙ sym c.get.ensures.value ∙ ap option_copied c.in-Some.is in
    error_acts c.seen.result outcome_unseen s d c.args.generation x (fetch_of c.args.piece) refl there c.seen.ensures.unseen
