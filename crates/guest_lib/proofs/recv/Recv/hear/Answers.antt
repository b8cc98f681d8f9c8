use Rattle.std.proofs.Common.{◌≡◌, ◌<◌, ◌∷◌, Bool, true, sym, ap, subst, ◌∙◌}
use Rattle.argo_model.specs.declared.action.Outcome.TheVariants.{Bytes}
use Rattle.argo_model.specs.Rules.Access.{outcome_unseen}
use Rattle.guest_lib.specs.Receiving.{Receiving, CanFeed, ahead, left_of, step_left}
use Rattle.guest_lib.specs.Stage.{step_of, IsStage}
use Rattle.guest_lib.proofs.EndLaws.{missed, hears_stage, hears_nearer, hears_some, hears_over, hears_none, hears_rest}
use Rattle.guest_lib.proofs.UnderWayLaws.{stage_does}
use Rattle.guest_lib.proofs.recv.Recv.hear.Goals as goal

pub invariant_of-self : goal.invariant_of-self
invariant_of-self c = (
  c.self.invariant.0,
  hears_stage c.self.inside.ring (step_of c.self.inside.stage) c.in-Ok.bytes.now c.hear.result c.hear.new.self c.hear.ensures,
)

pub returns-in-Ok-clause-goes_on : goal.returns-in-Ok-clause-goes_on
returns-in-Ok-clause-goes_on c =
    rw c.in-Ok.is
    (λ end os. ap (λ x. ahead end x (Bytes c.in-Ok.bytes.now ∷ os)) (sym c.self.view_is)
    ∙ hears_rest c.self.inside.ring (step_of c.self.inside.stage) c.in-Ok.bytes.now c.hear.result c.hear.new.self c.hear.ensures end os)

pub returns-in-Ok-clause-under_way : goal.returns-in-Ok-clause-under_way
returns-in-Ok-clause-under_way c =
    let r = c.self.inside.ring in
    hears_none r (step_of c.self.inside.stage) c.in-Ok.bytes.now _ c.hear.result c.hear.new.self c.hear.ensures
    (λ ready some. record { left = some; next = stage_does r c.hear.new.self c.self.invariant.0 ready some })

pub returns-in-Ok-clause-nearer : goal.returns-in-Ok-clause-nearer
returns-in-Ok-clause-nearer c =
    let P : Receiving → Type 0 = λ r. step_left (step_of c.hear.new.self) < left_of r in
    subst P c.self.view_is (hears_nearer c.self.inside.ring (step_of c.self.inside.stage) c.in-Ok.bytes.now c.hear.result c.hear.new.self c.hear.ensures)

pub returns-in-Ok-clause-over : goal.returns-in-Ok-clause-over
returns-in-Ok-clause-over c = (
  hears_some c.self.inside.ring (step_of c.self.inside.stage) c.in-Ok.bytes.now c.hear.result c.hear.new.self c.hear.ensures,
  hears_over c.self.inside.ring (step_of c.self.inside.stage) c.in-Ok.bytes.now c.hear.result c.hear.new.self c.hear.ensures,
)

pub returns-in-Err-clause-ends : goal.returns-in-Err-clause-ends
returns-in-Err-clause-ends c =
    let r = c.self.inside.ring in
    let s = c.self.inside.stage in
    let o = outcome_unseen c.in-Err.unseen in
    let P : Bool → Type 0 = λ ready. IsStage r.len ready s in
    let Q : Receiving → Type 0 = λ r. CanFeed r o in
    let there : c.self.inside.ready ≡ true = ap (λ (r : Receiving). r.ready) c.self.view_is ∙ c.requires.ready in
    let can = subst Q (sym c.self.view_is) (rw c.in-Err.is at c.requires.can_not) in
    let follows = missed r s c.self.invariant.0 (subst P there c.self.invariant.1) o c.unseen_by.result c.unseen_by.ensures.ends
    (λ word m is. c.unseen_by.ensures.ends_put m) c.unseen_by.ensures.short can in
    rw c.in-Err.is (λ end os. ap (λ x. ahead end x (o ∷ os)) (sym c.self.view_is) ∙ follows.rest end os)
