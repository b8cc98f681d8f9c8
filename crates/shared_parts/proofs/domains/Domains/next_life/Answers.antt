use Rattle.std.proofs.Common.{sym, ap, ◌∙◌}
use Rattle.shared_parts.specs.Domains.{Standing}
use Rattle.shared_parts.proofs.Standings.{none_unknown, gone_destroyed}
use Rattle.shared_parts.proofs.domains.Domains.next_life.Goals as goal

pub returns-in_default-clause-srch : goal.returns-in_default-clause-srch
returns-in_default-clause-srch g c = λ _. none_unknown g.A.Plan.facts c.args.dom c.self.inside.domains.entries c.self.invariant (sym c.in_default.ensures.value)

pub returns-clause-gone : goal.returns-clause-gone
returns-clause-gone g c =
    λ _. gone_destroyed g.A.Plan.facts c.args.dom c.self.inside.domains.entries c.self.invariant c.in-Some.domain.now (sym c.in-Some.ensures.value)
    (ap (λ (x : Standing). x.alive) (sym c.domain.view_is) ∙ sym c.is_some.ensures ∙ c.if-is_some.false)
