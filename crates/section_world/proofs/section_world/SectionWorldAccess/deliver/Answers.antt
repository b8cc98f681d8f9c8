use Rattle.std.proofs.Common.{ap, ◌∙◌}
use Rattle.argo_model.specs.declared.action.Action.{Action}
use Rattle.argo_model.specs.Rules.Access.{delivered_to}
use Rattle.argo_model.specs.Rules.Act.{act}
use Rattle.section_world.specs.Sections.{WorldAt}
use Rattle.section_world.proofs.StepLaws.{is_inside, is_small, are_few, is_counted, still_world, can_be, acts_in}
use Rattle.section_world.proofs.section_world.SectionWorldAccess.deliver.Goals as goal

pub index_mut-requires : goal.index_mut-requires
index_mut-requires g c =
    let m = c.self.inside in
    rw m.totals.ok.0 (is_inside m.totals.items c.args.v (rw (← c.self.view_is) at c.requires.few))

pub count-requires-clause-small : goal.count-requires-clause-small
count-requires-clause-small g c =
    let m = c.self.inside in
    is_small m.totals.items c.args.v c.index_mut.result.now (rw (← c.self.view_is) at c.requires.few) c.index_mut.ensures.value c.self.invariant.small

pub count-requires-clause-few : goal.count-requires-clause-few
count-requires-clause-few g c =
    let m = c.self.inside in
    are_few m.totals.items c.args.v c.index_mut.result.now (rw (← c.self.view_is) at c.requires.few) c.index_mut.ensures.value

pub invariant_of-self-2 : goal.invariant_of-self-2
invariant_of-self-2 g c =
    let m = c.self.inside in
    let w : WorldAt = record { state = g.D.DomainActs.state m.domains; actors = m.actors.items; totals = m.totals.items } in
    let a : Action = delivered_to c.args.at c.args.load.now in
    still_world w c.args.v c.index_mut.result.now c.count.new.totals c.index.result.now a c.in_ok-outcome.outcome (g.D.DomainActs.state c.deliver.new.domains) c.self.invariant (rw (← c.self.view_is) at c.requires.few) c.index_mut.ensures.value
    (ap (λ x. act x a (g.D.DomainActs.state m.domains)) c.in-Vcpu.is ∙ c.in_ok-outcome.ensures.ok) c.count.ensures.small c.count.ensures.is

pub returns-clause-can : goal.returns-clause-can
returns-clause-can g c =
    let m = c.self.inside in
    let a : Action = delivered_to c.args.at c.args.load.now in
    can_be m.actors.items c.args.v c.index.result.now a (g.D.DomainActs.state m.domains) (g.D.DomainActs.state c.deliver.new.domains) c.in_ok-outcome.outcome (rw (← c.self.view_is) at c.requires.fit) c.index.ensures (ap (λ x. act x a (g.D.DomainActs.state m.domains)) c.in-Vcpu.is ∙ c.in_ok-outcome.ensures.ok)

pub returns-clause-acts : goal.returns-clause-acts
returns-clause-acts g c =
    let m = c.self.inside in
    let a : Action = delivered_to c.args.at c.args.load.now in
    rw (← c.self.view_is) (acts_in m.actors.items c.args.v c.index.result.now a (g.D.DomainActs.state m.domains) (g.D.DomainActs.state c.deliver.new.domains) c.in_ok-outcome.outcome (rw (← c.self.view_is) at c.requires.fit) c.index.ensures (ap (λ x. act x a (g.D.DomainActs.state m.domains)) c.in-Vcpu.is ∙ c.in_ok-outcome.ensures.ok))

pub returns-clause-counts : goal.returns-clause-counts
returns-clause-counts g c =
    let m = c.self.inside in
    rw (← c.self.view_is) (is_counted m.totals.items c.args.v c.index_mut.result.now (rw (← c.self.view_is) at c.requires.few) c.index_mut.ensures.value c.count.new.totals c.in_ok-outcome.outcome c.count.ensures.is)
