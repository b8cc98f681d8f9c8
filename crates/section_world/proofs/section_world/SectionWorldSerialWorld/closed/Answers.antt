use Rattle.section_world.proofs.SectionLaws.{shown}
use Rattle.section_world.proofs.section_world.SectionWorldSerialWorld.closed.Goals as goal

pub closed-requires : goal.closed-requires
closed-requires g c =
    let m = c.self.inside in
    shown (record { state = g.D.DomainActs.state m.domains; actors = m.actors.items; totals = m.totals.items }) c.self.invariant (rw (← c.self.view_is) at c.requires)
