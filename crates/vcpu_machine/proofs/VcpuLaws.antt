-- Laws of how far a section is.
use Rattle.std.proofs.Common.{◌≡◌, ℕ, ◌+◌, ◌*◌, ◌<◌, ◌≤◌, Bool, true, false, IsTrue, List, [], ◌∷◌, ◌++◌, length, drop, sum_by, Some, None, slice_get, inl, inr, refl, sym, ap, ◌∙◌, subst, append_assoc, arith}
use Rattle.std.proofs.lemmas.Bool.{false≢true, cases_lt}
use Rattle.std.proofs.lemmas.List.{drop-drop}
use Rattle.std.proofs.lemmas.List.Sums.{sum_by-cons}
use Rattle.argo_model.specs.declared.action.Action.{Action}
use Rattle.argo_model.specs.declared.action.Outcome.{Outcome}
use Rattle.argo_model.specs.declared.line.Line.{Line}
use Rattle.argo_model.specs.declared.line.Line.TheVariants.{Store, Load, Op, Await, Recv, Destroy, Reset, Create}
use Rattle.argo_model.specs.declared.reply.Reply.{Reply}
use Rattle.argo_model.specs.declared.scripts.Actor.{Actor}
use Rattle.argo_model.specs.declared.scripts.Actor.TheVariants.{Vcpu, Control}
use Rattle.argo_model.specs.Programs.Program.{Do, Say, program}
use Rattle.argo_model.specs.Programs.Recv.{say_found}
use Rattle.argo_model.specs.Rules.Access.{is_fit_of}
use Rattle.argo_model.specs.Rules.Fit.{is_fit, is_fit_for, needs_no_caller}
use Rattle.argo_model.specs.Runs.Script.{Section, turns_of}
use Rattle.line_phase.specs.declared.phase.Phase.{Phase}
use Rattle.line_phase.specs.declared.phase.Phase.TheVariants.{Reading, Writing, Asking, Looking, Receiving, Ended}
use Rattle.line_phase.specs.Acting.{MayGo}
use Rattle.line_phase.specs.Phase.{rest_of, IsAtPhase, phase_left}
use Rattle.vcpu_machine.specs.Line.{GoesOnAlike, HasRoom, is_line_for}
use Rattle.vcpu_machine.specs.Steps.{most_steps}
use Rattle.vcpu_machine.specs.Vcpu.{VcpuAt, lines_left, ahead_of, ahead, left_of, reply_in, StandsFor, Begun, GoesOn, Fed, IsAtLine, NeedsNoCaller, IsOwn, IsOwnAt, HasRoomIf, IsVcpu, Begins}
use Rattle.line_phase.proofs.FitLaws.{and_true}
use Rattle.line_phase.proofs.ListLaws.{drop-slice_get, some_here, none_left}
use Rattle.line_phase.proofs.RangeLaws.{collect-does, put_all-does, some_piece}

-- a line at a phase has an action to come
pub at_phase_does : (line : Line) (phase : Phase) → IsAtPhase line phase → (a : Action) × (rest_of line phase [] ≡ Do a)
at_phase_does line (Reading c got reader) h = collect-does c _ _ _ h.some h.sound
at_phase_does line (Writing c text) h = put_all-does c _ _ _ h.some h.sound
at_phase_does line (Asking q) h = (_, refl)
at_phase_does line (Looking later) h = (_, refl)
at_phase_does line (Receiving r) h = (h.next.0, h.next.2 say_found)
at_phase_does line Ended h = absurd h

-- and so more than none
pub at_phase_left : (line : Line) (phase : Phase) → IsAtPhase line phase → 0 < phase_left phase
at_phase_left line (Reading c got reader) h = let some = some_piece c h.some h.sound in omega (arith, some)
at_phase_left line (Writing c text) h = let some = some_piece c h.some h.sound in omega (arith, some)
at_phase_left line (Asking q) h = omega arith
at_phase_left line (Looking later) h = omega arith
at_phase_left line (Receiving r) h = h.left
at_phase_left line Ended h = absurd h

-- an action that a section's next line does is fit for the section
pub fit_for : (actor : Actor) (line : Line) (phase : Phase) (a : Action) → IsOwn actor line phase → rest_of line phase [] ≡ Do a → IsTrue (is_fit a) → IsTrue (is_fit_for actor a)
fit_for (Vcpu d g) line phase a own does fit = fit
fit_for Control line phase a own does fit = and_true (is_fit a) (needs_no_caller a) fit (subst NeedsNoCaller does own.0)

-- and so the section may perform it
pub may_go : (actors : List Actor) (k : ℕ) (actor : Actor) (line : Line) (phase : Phase) → slice_get actors k ≡ Some actor → IsOwn actor line phase → IsAtPhase line phase
    → MayGo actors k (rest_of line phase [])
may_go actors k actor line phase section own at_phase =
    let next = at_phase_does line phase at_phase in
    subst (λ n. MayGo actors k n) (sym next.1)
    (λ fit. subst (λ x. IsTrue (is_fit_of x next.0)) (sym section) (fit_for actor line phase next.0 own next.1 fit))

-- a line of a section begins as its own
own_at_start : (actor : Actor) (line : Line) (phase : Phase) → IsTrue (is_line_for actor line)
    → ((os : List Outcome) → program actor line os ≡ rest_of line phase os) → phase_left phase ≤ most_steps line → IsOwn actor line phase
own_at_start (Vcpu d g) line phase lawful starts few = tt
own_at_start Control (Store at bytes) phase lawful starts few = absurd (false≢true lawful)
own_at_start Control (Load at n) phase lawful starts few = absurd (false≢true lawful)
own_at_start Control (Op c a1 a2 a3 a4) phase lawful starts few = absurd (false≢true lawful)
own_at_start Control (Await turns) phase lawful starts few = absurd (false≢true lawful)
own_at_start Control (Recv page len) phase lawful starts few = absurd (false≢true lawful)
own_at_start Control (Destroy d) phase lawful starts few = (subst NeedsNoCaller (starts []) refl, few)
own_at_start Control (Reset d) phase lawful starts few = (subst NeedsNoCaller (starts []) refl, few)
own_at_start Control (Create d) phase lawful starts few = (subst NeedsNoCaller (starts []) refl, few)

-- and goes on so
own_goes_on : (actor : Actor) (line : Line) (old new : Phase) → IsOwn actor line old → IsAtPhase line new → phase_left new < phase_left old → IsOwn actor line new
own_goes_on (Vcpu d g) line old new own at_phase nearer = tt
own_goes_on Control line old new own at_phase nearer =
    let some = at_phase_left line new at_phase in let few = own.1 in absurd (omega (arith, some, few, nearer))

own_stays : (actor : Actor) (line : Line) (old new : Phase) → IsOwn actor line old → GoesOnAlike line old new → IsOwn actor line new
own_stays (Vcpu d g) line old new own alike = tt
own_stays Control line old new own alike =
    (subst NeedsNoCaller (sym (alike.rest [])) own.0, let few = own.1 in let same = alike.left in omega (arith, few, same))

-- the line at a place begins there
pub begins_by : (actor : Actor) (lines : List Line) (done : ℕ) (line : Line) (phase : Phase) → slice_get lines done ≡ Some line → IsTrue (is_line_for actor line)
    → IsAtPhase line phase → ((os : List Outcome) → program actor line os ≡ rest_of line phase os) → phase_left phase ≤ most_steps line
    → Begins actor (drop done lines) phase
begins_by actor lines done line phase here lawful at_phase starts few =
    subst (λ ls. Begins actor ls phase) (sym (drop-slice_get lines done line here)) (at_phase, starts, few, own_at_start actor line phase lawful starts few)

-- past the last line nothing begins
pub begins_none : (actor : Actor) (lines : List Line) (done : ℕ) → length lines ≤ done → Begins actor (drop done lines) Ended
begins_none actor lines done past = subst (λ ls. Begins actor ls Ended) (sym (none_left lines done past)) refl

begins_left : (actor : Actor) (lines : List Line) (phase : Phase) → Begins actor lines phase → phase_left phase + sum_by most_steps (drop 1 lines) ≤ sum_by most_steps lines
begins_left actor [] phase h = omega (arith, h)
begins_left actor (line ∷ lines) phase h = rw sum_by-cons (omega (arith, h.2))

begins_at : (actor : Actor) (lines : List Line) (phase : Phase) → Begins actor lines phase → IsAtLine lines phase
begins_at actor [] phase h = h
begins_at actor (line ∷ lines) phase h = h.0

begins_own : (actor : Actor) (lines : List Line) (phase : Phase) → Begins actor lines phase → IsOwnAt actor lines phase
begins_own actor [] phase h = tt
begins_own actor (line ∷ lines) phase h = h.3

begins_for : (actor : Actor) (lines : List Line) (phase : Phase) → Begins actor lines phase → StandsFor actor lines phase []
begins_for actor [] phase h = refl
begins_for actor (line ∷ lines) phase h = h.1

few_steps : (line : Line) → most_steps line ≤ 8700 + turns_of line
few_steps (Store at bytes) = omega arith
few_steps (Load at n) = omega arith
few_steps (Op c a1 a2 a3 a4) = omega arith
few_steps (Await turns) = omega arith
few_steps (Recv page len) = omega arith
few_steps (Destroy d) = omega arith
few_steps (Reset d) = omega arith
few_steps (Create d) = omega arith

steps_within : (lines : List Line) → sum_by most_steps lines ≤ 8700 * length lines + sum_by turns_of lines
steps_within [] = omega arith
steps_within (line ∷ lines) =
    let h = few_steps line in let rest = steps_within lines in
    rw (sum_by-cons most_steps line lines, sum_by-cons turns_of line lines) (omega (arith, h, rest))

-- a section before its first action
module _ (part : Section) (phase : Phase) (begins : Begins part.actor (drop 0 part.lines) phase) where
  begun : VcpuAt
  begun = record { part = part; done = 0; phase = phase; ready = false }

  pub begun_is : length part.lines ≤ 8192 → IsVcpu (record { part = part; done = 0; phase = phase; ready = false })
  begun_is few = record {
    few = few;
    done = omega arith;
    at_line = begins_at part.actor (drop 0 part.lines) phase begins;
    own = begins_own part.actor (drop 0 part.lines) phase begins;
    room = tt;
  }

  pub begun_so : length part.lines ≤ 8192 → sum_by turns_of part.lines ≤ 1048576 → Begun part (record { part = part; done = 0; phase = phase; ready = false })
  begun_so few turns =
      let left = begins_left part.actor (drop 0 part.lines) phase begins in
      let within = steps_within part.lines in
      record {
        part_is = refl;
        done_is = refl;
        stands = record { actor = refl; done = refl; left = refl; outcomes = begins_for part.actor (drop 0 part.lines) phase begins };
        left = left;
        few = omega (arith, left, within, few, turns);
      }

-- the room stays
pub room_kept : (ready : Bool) (lines : List Line) (old new : Phase) → (HasRoom old → HasRoom new) → HasRoomIf ready lines old → HasRoomIf ready lines new
room_kept false lines old new keeps room = tt
room_kept true [] old new keeps room = absurd room
room_kept true (line ∷ lines) old new keeps room = keeps room

pub has_room : (ready : Bool) (line : Line) (lines : List Line) (phase : Phase) → ready ≡ true → HasRoomIf ready (line ∷ lines) phase → HasRoom phase
has_room true line lines phase is room = room
has_room false line lines phase is room = absurd (false≢true is)

room_more : (ready : Bool) (lines : List Line) (phase : Phase) → ready ≡ true → lines ≡ [] → HasRoomIf ready lines phase → ⊥
room_more true [] phase is none room = room
room_more true (line ∷ lines) phase is none room = cc
room_more false lines phase is none room = absurd (false≢true is)

-- where the next action was asked for, a line is left
pub ready_more : (v : VcpuAt) → IsVcpu v → v.ready ≡ true → v.done < length v.part.lines
ready_more v is ready = elim (cases_lt v.done (length v.part.lines)) [
  | inl more ↦ more
  | inr past ↦ absurd (room_more v.ready (lines_left v) v.phase ready (none_left v.part.lines v.done past) is.room)
]

-- a section has nothing to come exactly where no line is left
pub none_to_come : (v : VcpuAt) → IsVcpu v → length v.part.lines ≤ v.done → left_of v ≡ 0
none_to_come v is past =
    let none = none_left v.part.lines v.done past in
    let later = none_left v.part.lines (v.done + 1) (omega (arith, past)) in
    let left = subst (λ ls. IsAtLine ls v.phase) none is.at_line in
    let sum : sum_by most_steps (drop (v.done + 1) v.part.lines) ≡ 0 = ap (λ ls. sum_by most_steps ls) later in
    omega (arith, left, sum)

pub more_to_come : (v : VcpuAt) → IsVcpu v → left_of v ≡ 0 → length v.part.lines ≤ v.done
more_to_come v is none = elim (cases_lt v.done (length v.part.lines)) [
  | inl more ↦ (let here = some_here v.part.lines v.done more in
      let some = at_phase_left here.0 v.phase (subst (λ ls. IsAtLine ls v.phase) here.1 is.at_line) in absurd (omega (arith, some, none)))
  | inr past ↦ past
]

-- where a section stands at a line, that line is the first of those left
pub line_here : (v : VcpuAt) (lines : List Line) (line : Line) → v.part.lines ≡ lines → slice_get lines v.done ≡ Some line
    → lines_left v ≡ line ∷ drop (v.done + 1) v.part.lines
line_here v lines line same here = drop-slice_get v.part.lines v.done line (ap (λ ls. slice_get ls v.done) same ∙ here)

module _ (v : VcpuAt) (line : Line) (rest : List Line) (is : IsVcpu v) (lines : lines_left v ≡ line ∷ rest) where
  -- the line is at the section's phase
  pub phase_here : IsAtPhase line v.phase
  phase_here = subst (λ ls. IsAtLine ls v.phase) lines is.at_line

  pub own_here : IsOwn v.part.actor line v.phase
  own_here = subst (λ ls. IsOwnAt v.part.actor ls v.phase) lines is.own

  pub room_here : HasRoomIf v.ready (line ∷ rest) v.phase
  room_here = subst (λ ls. HasRoomIf v.ready ls v.phase) lines is.room

  pub rest_here : (os : List Outcome) → ahead v os ≡ rest_of line v.phase os
  rest_here os = ap (λ ls. ahead_of ls v.phase os) lines

  -- another phase at which the line goes on alike changes nothing
  pub goes_on_alike : (phase : Phase) (ready : Bool) → GoesOnAlike line v.phase phase → GoesOn v (record { part = v.part; done = v.done; phase = phase; ready = ready })
  goes_on_alike phase ready alike = record {
    part = refl;
    done = refl;
    left = ap (λ n. n + sum_by most_steps (drop (v.done + 1) v.part.lines)) alike.left;
    rest = λ os. ap (λ ls. ahead_of ls phase os) lines ∙ alike.rest os ∙ sym (rest_here os);
    stands = λ p st. record {
      actor = st.actor;
      done = st.done;
      left = st.left;
      outcomes = subst (λ ls. StandsFor v.part.actor ls phase p.outcomes) (sym lines)
          (λ os. subst (λ ls. StandsFor v.part.actor ls v.phase p.outcomes) lines st.outcomes os ∙ sym (alike.rest os));
    };
  }

  pub alike_is : (phase : Phase) (ready : Bool) → GoesOnAlike line v.phase phase → HasRoomIf ready (line ∷ rest) phase → IsVcpu (record { part = v.part; done = v.done; phase = phase; ready = ready })
  alike_is phase ready alike room = record {
    few = is.few;
    done = is.done;
    at_line = subst (λ ls. IsAtLine ls phase) (sym lines) alike.at_phase;
    own = subst (λ ls. IsOwnAt v.part.actor ls phase) (sym lines) (own_stays v.part.actor line v.phase phase own_here alike);
    room = subst (λ ls. HasRoomIf ready ls phase) (sym lines) room;
  }

  -- after an outcome the line goes on at another phase
  pub goes_on_is : (phase : Phase) → IsAtPhase line phase → phase_left phase < phase_left v.phase → IsVcpu (record { part = v.part; done = v.done; phase = phase; ready = false })
  goes_on_is phase at_phase nearer = record {
    few = is.few;
    done = is.done;
    at_line = subst (λ ls. IsAtLine ls phase) (sym lines) at_phase;
    own = subst (λ ls. IsOwnAt v.part.actor ls phase) (sym lines) (own_goes_on v.part.actor line v.phase phase own_here at_phase nearer);
    room = tt;
  }

  pub goes_on_fed : (o : Outcome) (phase : Phase) → ((os : List Outcome) → rest_of line v.phase (o ∷ os) ≡ rest_of line phase os)
      → IsAtPhase line phase → phase_left phase < phase_left v.phase → Fed v o None (record { part = v.part; done = v.done; phase = phase; ready = false })
  goes_on_fed o phase fed at_phase nearer =
      let next = at_phase_does line phase at_phase in
      record {
        part = refl;
        ready = refl;
        reply_is = sym (ap reply_in (rest_here (o ∷ []) ∙ fed [] ∙ next.1));
        done = tt;
        nearer = omega (arith, nearer);
        stands = λ p st. record {
          actor = st.actor;
          done = st.done;
          left = st.left;
          outcomes = subst (λ ls. StandsFor v.part.actor ls phase (p.outcomes ++ o ∷ [])) (sym lines)
              (λ os. ap (λ xs. program v.part.actor line xs) (append_assoc p.outcomes (o ∷ []) os)
              ∙ subst (λ ls. StandsFor v.part.actor ls v.phase p.outcomes) lines st.outcomes (o ∷ os) ∙ fed os);
        };
      }

  -- after an outcome the line has its reply, and the next one begins
  pub over_is : (phase : Phase) → v.done < length v.part.lines → Begins v.part.actor (drop (v.done + 1) v.part.lines) phase
      → IsVcpu (record { part = v.part; done = v.done + 1; phase = phase; ready = false })
  over_is phase more begins = record {
    few = is.few;
    done = omega (arith, more);
    at_line = begins_at v.part.actor _ phase begins;
    own = begins_own v.part.actor _ phase begins;
    room = tt;
  }

  pub over_fed : (o : Outcome) (reply : Reply) (phase : Phase) → ((os : List Outcome) → rest_of line v.phase (o ∷ os) ≡ Say reply)
      → rest ≡ drop (v.done + 1) v.part.lines → Begins v.part.actor (drop (v.done + 1) v.part.lines) phase
      → Fed v o (Some reply) (record { part = v.part; done = v.done + 1; phase = phase; ready = false })
  over_fed o reply phase fed later begins =
      let here = at_phase_left line v.phase phase_here in
      let less = begins_left v.part.actor (drop (v.done + 1) v.part.lines) phase begins in
      let later_drop : drop (v.done + 1 + 1) v.part.lines ≡ drop 1 (drop (v.done + 1) v.part.lines) = sym (drop-drop 1 (v.done + 1) v.part.lines) in
      record {
        part = refl;
        ready = refl;
        reply_is = sym (ap reply_in (rest_here (o ∷ []) ∙ fed []));
        done = refl;
        nearer = rw later_drop (omega (arith, here, less));
        stands = λ p st. record {
          actor = st.actor;
          done = ap (λ n. n + 1) st.done;
          left = ap (λ ls. drop 1 ls) (st.left ∙ lines) ∙ later;
          outcomes = begins_for v.part.actor (drop (v.done + 1) v.part.lines) phase begins;
        };
      }
