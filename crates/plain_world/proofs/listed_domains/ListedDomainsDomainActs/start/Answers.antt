use Rattle.std.proofs.Common.{[], sym, subst}
use Rattle.argo_model.specs.Rules.State.{State, start_state}
use Rattle.domain_lists.specs.Lists.{RingLists}
use Rattle.plain_world.specs.Levels.{AreLevel}
use Rattle.plain_world.proofs.DoneLaws.{level_start}
use Rattle.plain_world.proofs.listed_domains.ListedDomainsDomainActs.start.Goals as goal

pub invariant_of-result : goal.invariant_of-result
invariant_of-result g c =
    let s = c.in_ok-new.field-0 in
    let a = c.new-2.result in
    let P : State → Type 0 = λ x. AreLevel (record { state = x; sends = a; waits = c.new-3.result }) in
    let Q : RingLists → Type 0 = λ x. AreLevel (record { state = start_state c.args.lines.now; sends = x; waits = c.new-3.result }) in
    let R : RingLists → Type 0 = λ x. AreLevel (record { state = start_state c.args.lines.now; sends = []; waits = x }) in
    subst P (sym c.in_ok-new.ensures) (subst Q (sym c.new-2.ensures) (subst R (sym c.new-3.ensures) (level_start c.args.lines.now)))
