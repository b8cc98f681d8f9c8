use Rattle.std.proofs.Common.{ap, ◌∙◌}
use Rattle.section_world.proofs.SectionLaws.{starts_as, actors_in, none_done}
use Rattle.section_world.proofs.section_world.SectionWorldSerialWorld.start.Goals as goal

pub invariant_of-result : goal.invariant_of-result
invariant_of-result g c =
    let m = c.scripts.inside in
    starts_as c.as_slice.result.now (record { version = m.version; domains = m.domains; sections = m.parts })
    (g.D.DomainActs.state c.in_ok-start.field-0) c.in_ok-actors_of.field-0.items c.in_ok-fresh_totals.field-0.items c.scripts.invariant c.in_ok-start.ensures
    (c.in_ok-actors_of.ensures ∙ ap actors_in c.as_slice-parts.ensures)
    (c.in_ok-fresh_totals.ensures ∙ ap none_done c.as_slice-parts.ensures)
