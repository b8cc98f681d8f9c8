-- The single actions of lines, and what follows them.
use Rattle.std.specs.Prelude.{◌≡◌, ℕ, ◌+◌, ◌*◌, length, IsTrue}
use Rattle.argo_base.specs.Slots.{is_legal, page_count}
use Rattle.argo_base.specs.Layout.{numbers_at}
use Rattle.argo_model.specs.declared.action.Action.{Action}
use Rattle.argo_model.specs.declared.action.Action.TheVariants.{Rest, Unregister, Sweep, Query, Destroy, Reset, Create}
use Rattle.argo_model.specs.declared.action.Outcome.{Outcome}
use Rattle.line_phase.specs.declared.phase.Question.{Question}
use Rattle.line_phase.specs.declared.phase.Question.TheVariants.{Refuse, Destroy as ToDestroy, Reset as ToReset, Create as ToCreate, Unregister as ToUnregister, Register as ToRegister, Deliver as ToDeliver, Sweep as ToSweep, Query as ToQuery}
use Rattle.argo_model.specs.Programs.Asks.{Rests, refusal, say_done}
use Rattle.argo_model.specs.Programs.Send.{say_accepted}
use Rattle.argo_model.specs.Programs.Notify.{if_swept, sweep_rings, notify_entries, if_answered, answer_entries}
use Rattle.argo_model.specs.Rules.Fit.{is_fit_load}
use Rattle.line_phase.specs.Registering.{register_on}
use Rattle.argo_model.specs.Rules.Access.{delivered_to}
use Rattle.line_phase.specs.Entries.{entry_at, places_after, IsEntry, most_of_notify}

-- the action that asks
abbrev pub action_of : Question → Action
action_of (Refuse e) = Rest
action_of (ToDestroy d) = Destroy d
action_of (ToReset d) = Reset d
action_of (ToCreate d) = Create d
action_of (ToUnregister port partner) = Unregister port partner
action_of (ToRegister ring list) = register_on ring (numbers_at list.items (page_count ring.len))
action_of (ToDeliver a load) = delivered_to a load
action_of (ToSweep base after later) = Sweep after
action_of (ToQuery e to to_port need) = Query to to_port need

-- what follows an outcome
abbrev pub answered_by : Question → Outcome → Rests
answered_by (Refuse e) o os = refusal e
answered_by (ToDestroy d) o os = say_done o os
answered_by (ToReset d) o os = say_done o os
answered_by (ToCreate d) o os = say_done o os
answered_by (ToUnregister port partner) o os = say_done o os
answered_by (ToRegister ring list) o os = say_done o os
answered_by (ToDeliver a load) o os = say_accepted o os
answered_by (ToSweep base after later) o os =
    if_swept (λ serial. sweep_rings later serial (notify_entries base)) (notify_entries base) o os
answered_by (ToQuery e to to_port need) o os = if_answered (entry_at e) (answer_entries (places_after e)) o os

-- a page list is as long as its ring wants it, and a load is fit
abbrev pub IsQuestion : Question → Type 0
IsQuestion (Refuse e) = Unit {0}
IsQuestion (ToDestroy d) = Unit {0}
IsQuestion (ToReset d) = Unit {0}
IsQuestion (ToCreate d) = Unit {0}
IsQuestion (ToUnregister port partner) = Unit {0}
IsQuestion (ToRegister ring list) = IsTrue (is_legal ring.len) × (length list.items ≡ 8 * page_count ring.len)
IsQuestion (ToDeliver a load) = IsTrue (is_fit_load load)
IsQuestion (ToSweep base after later) = Unit {0}
IsQuestion (ToQuery e to to_port need) = IsEntry e

-- how many actions follow at most
abbrev pub most_after_answer : Question → ℕ
most_after_answer (Refuse e) = 0
most_after_answer (ToDestroy d) = 0
most_after_answer (ToReset d) = 0
most_after_answer (ToCreate d) = 0
most_after_answer (ToUnregister port partner) = 0
most_after_answer (ToRegister ring list) = 0
most_after_answer (ToDeliver a load) = 0
most_after_answer (ToSweep base after later) = later + most_of_notify
most_after_answer (ToQuery e to to_port need) = 5 * e.later + 2
