-- Laws of a step of a section: what it has done before, who it is, and what comes of its act.
use Rattle.std.proofs.Common.{◌≡◌, ℕ, ◌^◌, ◌<◌, List, length, set, get_or, slice_get, All, IsTrue, Option, Some, sym, ap, ◌∙◌, subst}
use Rattle.argo_model.specs.declared.scripts.Actor.{Actor}
use Rattle.argo_model.specs.declared.action.Action.{Action}
use Rattle.argo_model.specs.declared.action.Outcome.{Outcome}
use Rattle.argo_model.specs.declared.closing.Totals.{Totals}
use Rattle.argo_model.specs.Rules.Access.{ActsAt, ActsIn, counted_at, has_steps_left, is_fit_at}
use Rattle.argo_model.specs.Rules.Act.{act}
use Rattle.argo_model.specs.Rules.Fit.{is_fit_for}
use Rattle.argo_model.specs.Rules.Outcomes.{can_have}
use Rattle.argo_model.specs.Rules.State.{State}
use Rattle.argo_model.specs.Runs.Final.{totals_after}
use Rattle.section_world.specs.Sections.{WorldAt, IsSmall, IsWorld}
use Rattle.section_world.proofs.SectionLaws.{acts_as, has_done, inside_of, read_is, at_read, counted, after_step}
use Rattle.section_world.proofs.OutcomeLaws.{act_can_have}

-- ---- what section v has done

pub is_inside : (totals : List Totals) (v : ℕ) → IsTrue (has_steps_left totals v) → v < length totals
is_inside totals v few = let done = has_done totals v few in inside_of totals v done.done done.here

module _ (totals : List Totals) (v : ℕ) (t : Totals) (few : IsTrue (has_steps_left totals v)) (read : t ≡ get_or totals v t) where
  stands : slice_get totals v ≡ Some t
  stands = at_read totals v t (is_inside totals v few) read

  pub is_small : All IsSmall totals → IsSmall t
  is_small small = subst IsSmall (sym read) (small v t (is_inside totals v few))

  pub are_few : t.steps < 2 ^ 32
  are_few =
      let done = has_done totals v few in
      let P : Totals → Type 0 = λ x. x.steps < 2 ^ 32 in
      subst P (sym (read_is totals v done.done t done.here read)) done.few

  pub is_counted : (new : Totals) (o : Outcome) → new ≡ totals_after t o → set totals v new ≡ counted_at totals v o
  is_counted new o is = ap (set totals v) is ∙ sym (counted totals v t o stands)

-- what always holds holds after an act of section v
pub still_world : (w : WorldAt) (v : ℕ) (t new : Totals) (actor : Actor) (a : Action) (o : Outcome) (s : State) → IsWorld w → IsTrue (has_steps_left w.totals v) → t ≡ get_or w.totals v t
    → act actor a w.state ≡ record { outcome = o; state = s } → IsSmall new → new ≡ totals_after t o → IsWorld (record { state = s; actors = w.actors; totals = set w.totals v new })
still_world w v t new actor a o s is few read acts small new_is =
    let P : State → Type 0 = λ s. IsWorld (record { state = s; actors = w.actors; totals = set w.totals v new }) in
    subst P (ap (λ e. e.state) acts) (after_step w v t new actor a o is (stands w.totals v t few read) small new_is)

-- ---- who section v is

module _ (actors : List Actor) (v : ℕ) (actor : Actor) (a : Action) (s t : State) (o : Outcome)
    (fit : IsTrue (is_fit_at actors v a)) (read : actor ≡ get_or actors v actor) (acts : act actor a s ≡ record { outcome = o; state = t }) where
  pub can_be : IsTrue (can_have a o)
  can_be =
      let who = acts_as actors v a fit in
      let F : Actor → Type 0 = λ x. IsTrue (is_fit_for x a) in
      let P : Outcome → Type 0 = λ o. IsTrue (can_have a o) in
      subst P (ap (λ e. e.outcome) acts) (act_can_have s actor a (subst F (sym (read_is actors v who.actor actor who.here read)) who.fit))

  pub acts_in : ActsIn actors v a (Some s) o (Some t)
  acts_in =
      let who = acts_as actors v a fit in
      let here : slice_get actors v ≡ Some actor = who.here ∙ ap (λ x. Some x) (sym (read_is actors v who.actor actor who.here read)) in
      let P : Option Actor → Type 0 = λ x. ActsAt x a (Some s) o (Some t) in
      subst P (sym here) (sym (ap (λ e. e.outcome) acts), ap (λ x. Some x) (sym (ap (λ e. e.state) acts)))
