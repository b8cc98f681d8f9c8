use Rattle.std.proofs.Common.{◌≡◌, sym, subst}
use Rattle.argo_model.specs.Rules.State.{State, start_state}
use Rattle.section_world.specs.Young.{IsYoung}
use Rattle.section_world.proofs.SectionLaws.{young_start}
use Rattle.plain_world.proofs.tests.Trial.start.Goals as goal

pub invariant_of-result : goal.invariant_of-result
invariant_of-result g c = subst (IsYoung 1) (sym c.in_ok-start.ensures) (young_start c.as_slice.result.now)
