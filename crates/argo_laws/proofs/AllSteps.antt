-- Laws of the steps of a run: each does to flags and notices what it may.
use Rattle.std.proofs.Common.{◌≡◌, ℕ, Bool, true, false, if◌then◌else◌, ◌==◌, not, List, slice_get, Option, Some, None, option_map, option_and_then, refl, sym, subst, arith}
use Rattle.std.specs.Prelude.{IfSome}
use Rattle.std.proofs.lemmas.Bool.Decides.{nat_tests}
use Rattle.argo_base.specs.declared.errno.Errno.TheVariants.{NoDev}
use Rattle.argo_model.specs.declared.action.Action.{Action}
use Rattle.argo_model.specs.declared.action.Action.TheVariants.{Rest, Fetch, Put, Register, Unregister, Deliver, Sweep, Query, Look, Destroy, Reset, Create}
use Rattle.argo_model.specs.declared.action.Outcome.{Outcome}
use Rattle.argo_model.specs.declared.reply.Reply.{Reply}
use Rattle.argo_model.specs.declared.scripts.Actor.{Actor}
use Rattle.argo_model.specs.declared.scripts.Actor.TheVariants.{Vcpu, Control}
use Rattle.argo_model.specs.Laws.Transitions.{Transition, transition_of, transition_at}
use Rattle.argo_model.specs.Rules.Act.{act, act_of, act_if_live, act_if_there, act_of_control}
use Rattle.argo_model.specs.Rules.Effects.{stays}
use Rattle.argo_model.specs.Rules.State.{State, Domain, Live, domain_of, life_in, is_alive}
use Rattle.argo_model.specs.Rules.Sweep.{sweep_found, next_ring}
use Rattle.argo_model.specs.Runs.Run.{Progress, Turn, Course, turn, run}
use Rattle.argo_model.specs.Runs.Script.{Script}
use Rattle.argo_laws.specs.Steps.{FlagsStay, NoticesStand}
use Rattle.state_laws.specs.Valid.{IsLive, IsValid}
use Rattle.state_laws.proofs.Courses.{performed, valid_run}
use Rattle.state_laws.proofs.Domains.{fit_found}
use Rattle.argo_laws.proofs.Changes.{Found}
use Rattle.argo_laws.proofs.EndSteps.{lawful_destroy, lawful_reset, lawful_create}
use Rattle.argo_laws.proofs.OtherSteps.{lawful_deliver, lawful_query}
use Rattle.argo_laws.proofs.OwnSteps.{lawful_put, lawful_register, lawful_unregister, lawful_sweep, lawful_look}
use Rattle.argo_laws.proofs.Rings.{Lawful, lawful_same, lawful_if, moves_to}

-- what a section finds of its domain
pub record Lives (g : ℕ) (x : Domain) (live : Live) : Type 0 where
  pub life : x.life ≡ Some live
  pub generation : x.generation ≡ g

pub lives : (g : ℕ) (x : Domain) (live : Live) → life_in g x ≡ Some live → Lives g x live
lives g x live h = by (x.generation == g) refl h where
  by : (b : Bool) → (x.generation == g) ≡ b → (if b then x.life else None) ≡ Some live → Lives g x live
  by true is h = record { life = h; generation = grind (arith, nat_tests) }
  by false is h = cc

module _ (v k : ℕ) (r : Option Reply) (s : State) (valid : IsValid s) where
  of_domain : (d g : ℕ) (x : Domain) (live : Live) → Found s d x live → x.generation ≡ g → IsLive (is_alive s) live → (a : Action) → Lawful (moves_to (Vcpu d g) v k r s a (act_of s d x live a))
  of_domain d g x live f gen h Rest = lawful_same (moves_to (Vcpu d g) v k r s Rest (act_of s d x live Rest)) refl
  of_domain d g x live f gen h (Fetch page off n) = lawful_same (moves_to (Vcpu d g) v k r s (Fetch page off n) (act_of s d x live (Fetch page off n))) refl
  of_domain d g x live f gen h (Put page off bytes) = lawful_put d g v k r s x live f gen h page off bytes
  of_domain d g x live f gen h (Register port partner len pages fail_exist) = lawful_register d g v k r s x live f gen h port partner len pages fail_exist
  of_domain d g x live f gen h (Unregister port partner) = lawful_unregister d g v k r s x live f gen h port partner
  of_domain d g x live f gen h (Deliver port to to_port kind load) = lawful_deliver d g v k r s valid x port to to_port kind load
  of_domain d g x live f gen h (Sweep after) =
      lawful_if (Vcpu d g) v k r s (Sweep after) d (not x.on) NoDev (sweep_found live (next_ring after live.rings)) (λ e. lawful_sweep d g v k r s x live f gen h after)
  of_domain d g x live f gen h (Query to to_port need) = lawful_query d g v k r s valid x to to_port need
  of_domain d g x live f gen h Look = lawful_look d g v k r s x live f gen h
  of_domain d g x live f gen h (Destroy e) = lawful_destroy (Vcpu d g) v k r s valid e
  of_domain d g x live f gen h (Reset e) = lawful_reset (Vcpu d g) v k r s valid e
  of_domain d g x live f gen h (Create e) = lawful_create (Vcpu d g) v k r s valid e

  stayed : (actor : Actor) (a : Action) (o : Outcome) → Lawful (moves_to actor v k r s a (stays o s))
  stayed actor a o = lawful_same (moves_to actor v k r s a (stays o s)) refl

  pub lawful_act : (actor : Actor) (a : Action) → Lawful (moves_to actor v k r s a (act actor a s))
  lawful_act Control Rest = lawful_same (moves_to Control v k r s Rest (act_of_control s Rest)) refl
  lawful_act Control (Fetch page off n) = lawful_same (moves_to Control v k r s (Fetch page off n) (act_of_control s (Fetch page off n))) refl
  lawful_act Control (Put page off bytes) = lawful_same (moves_to Control v k r s (Put page off bytes) (act_of_control s (Put page off bytes))) refl
  lawful_act Control (Register port partner len pages fail_exist) =
      lawful_same (moves_to Control v k r s (Register port partner len pages fail_exist) (act_of_control s (Register port partner len pages fail_exist))) refl
  lawful_act Control (Unregister port partner) = lawful_same (moves_to Control v k r s (Unregister port partner) (act_of_control s (Unregister port partner))) refl
  lawful_act Control (Deliver port to to_port kind load) =
      lawful_same (moves_to Control v k r s (Deliver port to to_port kind load) (act_of_control s (Deliver port to to_port kind load))) refl
  lawful_act Control (Sweep after) = lawful_same (moves_to Control v k r s (Sweep after) (act_of_control s (Sweep after))) refl
  lawful_act Control (Query to to_port need) = lawful_same (moves_to Control v k r s (Query to to_port need) (act_of_control s (Query to to_port need))) refl
  lawful_act Control Look = lawful_same (moves_to Control v k r s Look (act_of_control s Look)) refl
  lawful_act Control (Destroy e) = lawful_destroy Control v k r s valid e
  lawful_act Control (Reset e) = lawful_reset Control v k r s valid e
  lawful_act Control (Create e) = lawful_create Control v k r s valid e
  lawful_act (Vcpu d g) a = there (domain_of s d) refl where
    caller : (x : Domain) → domain_of s d ≡ Some x → (l : Option Live) → life_in g x ≡ l → Lawful (moves_to (Vcpu d g) v k r s a (act_if_live s d x l a))
    caller x here None is = lawful_same (moves_to (Vcpu d g) v k r s a (act_if_live s d x None a)) refl
    caller x here (Some live) is =
        let l = lives g x live is in
        let fit : IfSome (Some live) (IsLive (is_alive s)) = subst (λ (o : Option Live). IfSome o (IsLive (is_alive s))) l.life (fit_found (is_alive s) s d x here valid.lives) in
        of_domain d g x live (record { here = here; life = l.life }) l.generation fit a

    there : (o : Option Domain) → domain_of s d ≡ o → Lawful (moves_to (Vcpu d g) v k r s a (act_if_there s d g o a))
    there None here = lawful_same (moves_to (Vcpu d g) v k r s a (act_if_there s d g None a)) refl
    there (Some x) here = caller x here (life_in g x) refl

-- ---- the steps of runs

-- a transition is what its action does
pub of_turn : (P : Transition → Type 0) (s : State) (v : ℕ) (p : Progress) (t : Turn) → turn s p ≡ Some t → P (moves_to p.actor v t.line t.reply s t.action (act p.actor t.action s)) → P (transition_of s v p t)
of_turn P s v p t h done =
    let d = performed s p t h in
    subst (λ o. P (moves_to p.actor v t.line t.reply s t.action (record { outcome = o; state = t.state }))) (sym d.outcome)
    (subst (λ u. P (moves_to p.actor v t.line t.reply s t.action (record { outcome = (act p.actor t.action s).outcome; state = u }))) (sym d.state) done)

pub lawful_step : (c : Course) (v : ℕ) → IsValid c.state → IfSome (transition_at c v) Lawful
lawful_step c v valid = by (slice_get c.sections v) where
  turned : (p : Progress) (o : Option Turn) → turn c.state p ≡ o → IfSome (option_map (transition_of c.state v p) o) Lawful
  turned p None h = tt
  turned p (Some t) h = of_turn Lawful c.state v p t h (lawful_act v t.line t.reply c.state valid p.actor t.action)

  by : (o : Option Progress) → IfSome (option_and_then (λ p. option_map (transition_of c.state v p) (turn c.state p)) o) Lawful
  by None = tt
  by (Some p) = turned p (turn c.state p) refl

of_step : (P : Transition → Type 0) → ((t : Transition) → Lawful t → P t) → (o : Option Transition) → IfSome o Lawful → IfSome o P
of_step P from None h = tt
of_step P from (Some t) h = from t h

pub flags : (s : Script) (schedule : List ℕ) (v : ℕ) → IfSome (transition_at (run s schedule) v) FlagsStay
flags s schedule v = of_step FlagsStay (λ t h. h.flags) (transition_at (run s schedule) v) (lawful_step (run s schedule) v (valid_run s schedule))

pub notices : (s : Script) (schedule : List ℕ) (v : ℕ) → IfSome (transition_at (run s schedule) v) NoticesStand
notices s schedule v = of_step NoticesStand (λ t h. h.notices) (transition_at (run s schedule) v) (lawful_step (run s schedule) v (valid_run s schedule))
