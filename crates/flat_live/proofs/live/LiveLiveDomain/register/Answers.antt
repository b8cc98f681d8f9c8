use Rattle.std.proofs.Common.{◌≡◌, true, sym, ap, ◌∙◌}
use Rattle.argo_model.specs.Rules.State.{Live}
use Rattle.argo_model.specs.Rules.Effects.{Change, after}
use Rattle.argo_model.specs.Rules.Register.{are_free_for}
use Rattle.flat_live.proofs.RegisterLaws.{own_allowed}
use Rattle.flat_live.proofs.live.LiveLiveDomain.register.Goals as goal

pub returns-clause-outcome : goal.returns-clause-outcome
returns-clause-outcome c =
    let live = c.args.self.now in
    let r = c.args.r in
    let free : are_free_for live r.key r.pages ≡ true = ap (are_free_for live r.key) (sym c.as_slice.ensures) ∙ sym c.in_ok-are_free_for.ensures ∙ c.if-not-branch.false in
    c.in_ok-change.ensures.outcome
    ∙ sym (ap (λ (x : Change Live). x.outcome)
    (own_allowed live r.key r.len r.pages r.fail_exist (sym c.stands_already.ensures ∙ c.if-stands_already.false) (sym c.is_full.ensures ∙ c.if-is_full.false) free))

pub returns-clause-signals : goal.returns-clause-signals
returns-clause-signals c =
    let live = c.args.self.now in
    let r = c.args.r in
    let free : are_free_for live r.key r.pages ≡ true = ap (are_free_for live r.key) (sym c.as_slice.ensures) ∙ sym c.in_ok-are_free_for.ensures ∙ c.if-not-branch.false in
    c.in_ok-change.ensures.signals
    ∙ sym (ap (λ (x : Change Live). x.signals)
    (own_allowed live r.key r.len r.pages r.fail_exist (sym c.stands_already.ensures ∙ c.if-stands_already.false) (sym c.is_full.ensures ∙ c.if-is_full.false) free))

pub returns-clause-left : goal.returns-clause-left
returns-clause-left c =
    let live = c.args.self.now in
    let r = c.args.r in
    let free : are_free_for live r.key r.pages ≡ true = ap (are_free_for live r.key) (sym c.as_slice.ensures) ∙ sym c.in_ok-are_free_for.ensures ∙ c.if-not-branch.false in
    c.in_ok-change.ensures.left
    ∙ sym (ap (after live)
    (own_allowed live r.key r.len r.pages r.fail_exist (sym c.stands_already.ensures ∙ c.if-stands_already.false) (sym c.is_full.ensures ∙ c.if-is_full.false) free))
