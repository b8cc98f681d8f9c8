-- Laws of a step of a worker: what it may do, and that all that always holds of it still does.
use Rattle.std.proofs.Common.{◌≡◌, ℕ, ◌+◌, ◌<◌, ◌≤◌, List, [], ◌∷◌, ◌++◌, length, slice_get, Some, None, IsTrue, refl, sym, ap, subst, ◌∙◌, arith}
use Rattle.std.proofs.lemmas.Bool.{and_parts}
use Rattle.std.proofs.lemmas.List.{length-append}
use Rattle.argo_model.specs.declared.action.Action.{Action}
use Rattle.argo_model.specs.declared.action.Outcome.{Outcome}
use Rattle.argo_model.specs.declared.closed.HeardLine.{HeardLine}
use Rattle.argo_model.specs.declared.closing.Totals.{Totals}
use Rattle.argo_model.specs.declared.reply.Reply.{Reply}
use Rattle.argo_model.specs.declared.scripts.Actor.{Actor}
use Rattle.argo_model.specs.Programs.Asks.{Next, Do, CanFollow}
use Rattle.argo_model.specs.Rules.Access.{is_fit_of, is_fit_at}
use Rattle.argo_model.specs.Rules.Fit.{is_fit_for}
use Rattle.argo_model.specs.Rules.Outcomes.{can_have}
use Rattle.argo_model.specs.Rules.Possible.{Facts, is_possible}
use Rattle.argo_model.specs.Runs.Final.{totals_after}
use Rattle.argo_model.specs.Runs.Script.{Section}
use Rattle.argo_board.specs.Board.{most_steps, totals_of}
use Rattle.vcpu_machine.specs.Vcpu.{VcpuAt, GoesOn, Fed, ahead, progress_after}
use Rattle.shared_steps.specs.Passes.{Carried}
use Rattle.shared_world.specs.Possible.{may_end, is_possible_for, is_possible_at}
use Rattle.shared_world.specs.Whole.{RiseAbove, last_step}
use Rattle.thread_run.specs.Worker.{MayWork, IsWork}
use Rattle.thread_run.proofs.EndLaws.{next_may_end}

-- ---- rising steps

rise_last : (n : ℕ) (h : HeardLine) (hs : List HeardLine) → RiseAbove n (h ∷ hs) → n < last_step (h ∷ hs)
rise_last n h [] rise = rise.0
rise_last n h (h2 ∷ hs) rise = let later = rise_last h.step h2 hs rise.1 in let first = rise.0 in omega (arith, later, first)

rise_more : (n : ℕ) (hs : List HeardLine) (h : HeardLine) → RiseAbove n hs → n < h.step → last_step hs < h.step → RiseAbove n (hs ++ h ∷ [])
rise_more n [] h rise above later = (above, tt)
rise_more n (x ∷ []) h rise above later = (rise.0, (later, tt))
rise_more n (x ∷ y ∷ hs) h rise above later =
    let next = rise_last x.step y hs rise.1 in (rise.0, rise_more x.step (y ∷ hs) h rise.1 (omega (arith, next, later)) later)

last_more : (hs : List HeardLine) (h : HeardLine) → last_step (hs ++ h ∷ []) ≡ h.step
last_more [] h = refl
last_more (x ∷ []) h = refl
last_more (x ∷ y ∷ hs) h = last_more (y ∷ hs) h

-- ---- what a step owes

fit_here : (actors : List Actor) (n : ℕ) (actor : Actor) (a : Action) → slice_get actors n ≡ Some actor → IsTrue (is_fit_for actor a) → IsTrue (is_fit_at actors n a)
fit_here actors n actor a here fit = ap (λ o. is_fit_of o a) here ∙ fit

can_have_of : (f : Facts) (actor : Actor) (a : Action) (o : Outcome) → IsTrue (is_possible f actor a o) → IsTrue (can_have a o)
can_have_of f actor a o h =
    let i = and_parts _ _ h in let g = and_parts _ _ i.0 in let e = and_parts _ _ g.0 in let d = and_parts _ _ e.0 in
    let c = and_parts _ _ d.0 in let b = and_parts _ _ c.0 in let x = and_parts _ _ b.0 in let y = and_parts _ _ x.0 in y.0

-- an outcome that the world found possible can follow
can_follow : (f : Facts) (actors : List Actor) (n : ℕ) (actor : Actor) (a : Action) (o : Outcome) (next : Next)
    → slice_get actors n ≡ Some actor → next ≡ Do a → IsTrue (is_possible_at f actors n a o) → CanFollow next o
can_follow f actors n actor a o next here does possible =
    subst (λ (x : Next). CanFollow x o) (sym does) (can_have_of f actor a o (sym (ap (λ x. is_possible_for f x a o) here) ∙ possible))

-- ---- what always holds

module _ (f : Facts) (actors : List Actor) (v : VcpuAt) (pass : Carried) (heard : List HeardLine) (room : ℕ) (is : IsWork f actors v pass heard room) where
  pub ends_here : (a : Action) → ahead v [] ≡ Do a → IsTrue (may_end f a)
  ends_here a does = next_may_end f v is.progress a is.stands is.may.ends does

  pub fit_next : (a : Action) → IsTrue (is_fit_for v.part.actor a) → IsTrue (is_fit_at actors pass.tally.vcpu a)
  fit_next a fit = fit_here actors pass.tally.vcpu v.part.actor a is.may.actor fit

  pub follows_next : (w : VcpuAt) (a : Action) (o : Outcome) → GoesOn v w → ahead v [] ≡ Do a → IsTrue (is_possible_at f actors pass.tally.vcpu a o) → CanFollow (ahead w []) o
  follows_next w a o on does possible = can_follow f actors pass.tally.vcpu v.part.actor a o (ahead w []) is.may.actor (on.rest [] ∙ does) possible

  pub few_made : pass.tally.steps < most_steps
  few_made = let few = is.few in omega (arith, few)

  -- there is room for one reply more
  pub room_next : v.done < length v.part.lines → length heard < room
  room_next more = let room_is = is.room_is in let all = is.all in omega (arith, room_is, all, more)

  pub goes_on : (w : VcpuAt) → GoesOn v w → IsWork f actors w pass heard room
  goes_on w on = record {
    may = subst (λ (s : Section). MayWork f actors pass.tally.vcpu s) (sym on.part) is.may;
    free = is.free;
    progress = is.progress;
    stands = on.stands is.progress is.stands;
    done =
        let done = is.done in
        let same = on.done in
        let lines : length w.part.lines ≡ length v.part.lines = ap (λ (s : Section). length s.lines) on.part in
        omega (arith, done, same, lines);
    few = let few = is.few in let same = on.left in omega (arith, few, same);
    room_is = subst (λ (s : Section). length s.lines ≤ room) (sym on.part) is.room_is;
    all = is.all ∙ sym on.done;
    rise = is.rise;
    within = is.within;
    last = λ past. is.last (subst (λ (s : Section). length s.lines ≤ v.done) on.part (subst (λ (n : ℕ). length w.part.lines ≤ n) on.done past));
  }

  module _ (more : v.done < length v.part.lines) (o : Outcome) (w : VcpuAt) (after : Carried) (held : after.held ≡ [])
      (number : after.tally.vcpu ≡ pass.tally.vcpu) (counts : after.tally.steps ≡ pass.tally.steps + 1) where
    same_may : w.part ≡ v.part → MayWork f actors after.tally.vcpu w.part
    same_may part =
        subst (λ (s : Section). MayWork f actors after.tally.vcpu s) (sym part) (subst (λ (n : ℕ). MayWork f actors n v.part) (sym number) is.may)

    -- a step with which no reply came
    pub goes_further : Fed v o None w → IsWork f actors w after heard room
    goes_further fed =
        let stands = fed.stands is.progress is.stands in
        let done : w.done ≡ v.done = sym stands.done ∙ is.stands.done in
        record {
          may = same_may fed.part;
          free = held;
          progress = progress_after is.progress o None;
          stands = stands;
          done =
              let lines : length w.part.lines ≡ length v.part.lines = ap (λ (s : Section). length s.lines) fed.part in
              omega (arith, done, lines, more);
          few = let few = is.few in let nearer = fed.nearer in omega (arith, few, nearer, counts);
          room_is = subst (λ (s : Section). length s.lines ≤ room) (sym fed.part) is.room_is;
          all = is.all ∙ sym done;
          rise = is.rise;
          within = let within = is.within in omega (arith, within, counts);
          last = λ past.
              let lines : length w.part.lines ≡ length v.part.lines = ap (λ (s : Section). length s.lines) fed.part in
              absurd (omega (arith, past, lines, done, more));
        }

    -- a step with which the reply came
    pub hears : (reply : Reply) (h : HeardLine) → Fed v o (Some reply) w → h.step ≡ after.tally.steps → IsWork f actors w after (heard ++ h ∷ []) room
    hears reply h fed step =
        let within = is.within in
        let last = last_more heard h in
        let later : last_step heard < h.step = omega (arith, within, counts, step) in
        record {
          may = same_may fed.part;
          free = held;
          progress = progress_after is.progress o (Some reply);
          stands = fed.stands is.progress is.stands;
          done =
              let one_more = fed.done in
              let lines : length w.part.lines ≡ length v.part.lines = ap (λ (s : Section). length s.lines) fed.part in
              omega (arith, one_more, lines, more);
          few = let few = is.few in let nearer = fed.nearer in omega (arith, few, nearer, counts);
          room_is = subst (λ (s : Section). length s.lines ≤ room) (sym fed.part) is.room_is;
          all = let all = is.all in let done = fed.done in let sum = length-append heard (h ∷ []) in omega (arith, all, done, sum);
          rise = rise_more 0 heard h is.rise (omega (arith, later)) later;
          within = omega (arith, last, step);
          last = λ past. last ∙ step;
        }

-- ---- a whole step: the next action was asked for, performed, and its outcome fed

steps_more : (a b : Totals) (o : Outcome) → b ≡ totals_after a o → b.steps ≡ a.steps + 1
steps_more a b o counts = ap (λ (t : Totals). t.steps) counts

module _ (f : Facts) (actors : List Actor) (v w x : VcpuAt) (pass after : Carried) (heard : List HeardLine) (room : ℕ) (o : Outcome) (is : IsWork f actors v pass heard room)
    (more : v.done < length v.part.lines) (on : GoesOn v w) (free : after.held ≡ []) (number : after.tally.vcpu ≡ pass.tally.vcpu)
    (counts : totals_of after.tally ≡ totals_after (totals_of pass.tally) o) where
  still_more : w.done < length w.part.lines
  still_more =
      let done = on.done in
      let lines : length w.part.lines ≡ length v.part.lines = ap (λ (s : Section). length s.lines) on.part in
      omega (arith, done, lines, more)

  pub step_further : Fed w o None x → IsWork f actors x after heard room
  step_further fed =
      goes_further f actors w pass heard room (goes_on f actors v pass heard room is w on) still_more o x after free number
      (steps_more (totals_of pass.tally) (totals_of after.tally) o counts) fed

  pub step_heard : (reply : Reply) (h : HeardLine) → Fed w o (Some reply) x → h.step ≡ after.tally.steps → IsWork f actors x after (heard ++ h ∷ []) room
  step_heard reply h fed step =
      hears f actors w pass heard room (goes_on f actors v pass heard room is w on) still_more o x after free number
      (steps_more (totals_of pass.tally) (totals_of after.tally) o counts) reply h fed step
