use Rattle.std.proofs.Common.{◌≡◌, ◌+◌, ◌≤◌, ◌^◌, ap, subst, arith}
use Rattle.argo_model.specs.Rules.State.{State}
use Rattle.section_world.specs.Young.{IsYoung}
use Rattle.section_world.proofs.SectionLaws.{young_up}
use Rattle.section_world.proofs.YoungLaws.{act_young}
use Rattle.plain_world.proofs.tests.Trial.act.Goals as goal

pub act-requires-clause-young : goal.act-requires-clause-young
act-requires-clause-young g c =
    let i = c.self.inside in
    let few = c.if-assert.false in
    young_up (i.acts + 1) (2 ^ 62) (g.D.DomainActs.state i.domains) (omega arith) c.self.invariant

pub invariant_of-self-2 : goal.invariant_of-self-2
invariant_of-self-2 g c =
    let i = c.self.inside in
    subst (IsYoung (i.acts + 1 + 1)) (ap (λ e. e.state) c.in_ok-outcome.ensures.ok)
    (act_young (i.acts + 1) c.args.actor c.args.action (g.D.DomainActs.state i.domains) c.self.invariant)
