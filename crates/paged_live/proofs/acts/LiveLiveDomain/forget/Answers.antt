use Rattle.std.proofs.Common.{refl, ◌∙◌, subst, arith}
use Rattle.argo_model.specs.Rules.State.{Live}
use Rattle.paged_live.specs.Forgets.{AllForgotten}
use Rattle.paged_live.specs.Parts.{Parts}
use Rattle.paged_live.proofs.ForgetLaws.{none_first, forgot_next, all_forgotten}
use Rattle.paged_live.proofs.acts.LiveLiveDomain.forget.Goals as goal

pub rings-init : goal.rings-init
rings-init c =
    let i = c.self.inside in
    let x : Parts = record { private = i.private; homes = i.homes.items; flag = i.flag; next_serial = i.next_serial; rows = i.rings } in
    (refl, subst (λ (l : Live). AllForgotten c.args.dom 0 l) c.self.view_is (none_first x c.self.invariant c.args.dom))

pub rings-preserved : goal.rings-preserved
rings-preserved c =
    let live = c.rings.self in (
      c.forget_on.ensures.same ∙ c.rings.invariant.0,
      forgot_next c.args.dom c.rings.serial c.in-Some.next c.in-Some.key live c.forget_on.new.self c.rings.invariant.1 c.in-Some.ensures.some c.forget_on.ensures,
    )

pub rings-smaller : goal.rings-smaller
rings-smaller c =
    let a = c.in-Some.ensures.some in
    omega (arith, a.above, a.young, c.forget_on.ensures.next_serial)

pub returns : goal.returns
returns c = all_forgotten c.args.dom c.rings.serial c.rings.self c.rings.invariant.1 c.in_default.ensures.none ∙ c.rings.invariant.0
