use Rattle.std.proofs.Common.{◌≡◌, IsTrue, IfNone, is_some, sym, ap, subst, ◌∙◌}
use Rattle.argo_model.specs.Rules.Possible.{is_destroyed, may_be_away}
use Rattle.shared_parts.specs.Domains.{Standing, IsParty}
use Rattle.shared_parts.proofs.Standings.{away_none, away_gone, found_party, found_first}
use Rattle.shared_parts.proofs.domains.Domains.party.Goals as goal

pub returns-in_err-domain-clause-away : goal.returns-in_err-domain-clause-away
returns-in_err-domain-clause-away g c =
    subst (λ r. IfNone r (IsTrue (may_be_away g.A.Plan.facts c.args.dom))) (sym c.from_residual.ensures)
    (away_none g.A.Plan.facts c.args.dom c.self.inside.domains.entries c.self.invariant (sym c.in_err-domain.ensures.value))

pub returns-in_default-clause-away : goal.returns-in_default-clause-away
returns-in_default-clause-away g c =
    away_gone g.A.Plan.facts c.args.dom c.self.inside.domains.entries c.self.invariant c.in_ok-domain.domain.now (sym c.in_ok-domain.ensures.value)
    (ap (λ (x : Standing). x.alive) (sym c.domain.view_is) ∙ ap is_some c.in_default.is)

pub returns-clause-party : goal.returns-clause-party
returns-clause-party g c =
    subst (λ (x : Standing). IsParty g.A.Plan.facts c.args.dom x.on x.pages) (sym c.domain.view_is)
    (found_party g.A.Plan.facts c.args.dom c.self.inside.domains.entries c.self.invariant c.in_ok-domain.domain.now (sym c.in_ok-domain.ensures.value))

pub returns-clause-first : goal.returns-clause-first
returns-clause-first g c =
    subst (λ (x : Standing). (x.generation ≡ 1 → ⊥) → IsTrue (is_destroyed g.A.Plan.facts c.args.dom)) (sym c.domain.view_is)
    (found_first g.A.Plan.facts c.args.dom c.self.inside.domains.entries c.self.invariant c.in_ok-domain.domain.now (sym c.in_ok-domain.ensures.value))
