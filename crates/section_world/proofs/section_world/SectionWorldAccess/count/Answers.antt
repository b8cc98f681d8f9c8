use Rattle.std.proofs.Common.{refl}
use Rattle.argo_model.specs.declared.scripts.Actor.TheVariants.{Control}
use Rattle.argo_model.specs.declared.action.Action.TheVariants.{Rest}
use Rattle.argo_model.specs.declared.action.Outcome.TheVariants.{Done}
use Rattle.section_world.specs.Sections.{WorldAt}
use Rattle.section_world.proofs.StepLaws.{is_inside, is_small, are_few, is_counted, still_world}
use Rattle.section_world.proofs.section_world.SectionWorldAccess.count.Goals as goal

pub index_mut-requires : goal.index_mut-requires
index_mut-requires g c =
    let m = c.self.inside in
    rw m.totals.ok.0 (is_inside m.totals.items c.args.v (rw (← c.self.view_is) at c.requires))

pub count-requires-clause-small : goal.count-requires-clause-small
count-requires-clause-small g c =
    let m = c.self.inside in
    is_small m.totals.items c.args.v c.index_mut.result.now (rw (← c.self.view_is) at c.requires) c.index_mut.ensures.value c.self.invariant.small

pub count-requires-clause-few : goal.count-requires-clause-few
count-requires-clause-few g c =
    let m = c.self.inside in
    are_few m.totals.items c.args.v c.index_mut.result.now (rw (← c.self.view_is) at c.requires) c.index_mut.ensures.value

pub invariant_of-self : goal.invariant_of-self
invariant_of-self g c =
    let m = c.self.inside in
    let w : WorldAt = record { state = g.D.DomainActs.state m.domains; actors = m.actors.items; totals = m.totals.items } in
    still_world w c.args.v c.index_mut.result.now c.count.new.totals Control Rest Done (g.D.DomainActs.state m.domains) c.self.invariant (rw (← c.self.view_is) at c.requires) c.index_mut.ensures.value
    refl c.count.ensures.small c.count.ensures.is

pub returns-clause-counts : goal.returns-clause-counts
returns-clause-counts g c =
    let m = c.self.inside in
    rw (← c.self.view_is) (is_counted m.totals.items c.args.v c.index_mut.result.now (rw (← c.self.view_is) at c.requires) c.index_mut.ensures.value c.count.new.totals Done c.count.ensures.is)
