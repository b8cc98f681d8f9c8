use Rattle.std.proofs.Common.{◌+◌, ◌<◌, ◌^◌, arith}
use Rattle.section_world.proofs.SectionLaws.{young_shown}
use Rattle.plain_world.proofs.tests.Trial.closed.Goals as goal

pub closed-requires : goal.closed-requires
closed-requires g c =
    let i = c.self.inside in
    let few = c.if-assert.false in
    young_shown (i.acts + 1) (g.D.DomainActs.state i.domains) (omega arith) c.self.invariant
