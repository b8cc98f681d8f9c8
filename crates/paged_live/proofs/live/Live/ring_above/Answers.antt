use Rattle.std.proofs.Common.{subst}
use Rattle.argo_model.specs.Rules.State.{Live}
use Rattle.paged_live.specs.Forgets.{IsAbove, NoneIsAbove}
use Rattle.paged_live.specs.Parts.{Parts}
use Rattle.paged_live.proofs.ForgetLaws.{is_above, none_above}
use Rattle.paged_live.proofs.live.Live.ring_above.Goals as goal

pub returns-in_default-clause-none : goal.returns-in_default-clause-none
returns-in_default-clause-none c =
    let i = c.self.inside in
    let x : Parts = record { private = i.private; homes = i.homes.items; flag = i.flag; next_serial = i.next_serial; rows = i.rings } in
    subst (λ (l : Live). NoneIsAbove l c.args.serial) c.self.view_is (none_above x c.self.invariant c.args.serial c.in_default.ensures.none)

pub returns-clause-some : goal.returns-clause-some
returns-clause-some c =
    let i = c.self.inside in
    let x : Parts = record { private = i.private; homes = i.homes.items; flag = i.flag; next_serial = i.next_serial; rows = i.rings } in
    let row = c.in-Some.row.now in
    subst (λ (l : Live). IsAbove l c.args.serial row.key row.serial) c.self.view_is (is_above x c.self.invariant c.args.serial row c.in-Some.ensures.some)
