-- The messages that a ring has accepted since its last start, and how many of them were taken.
use Rattle.std.specs.Prelude.{ℕ, ◌+◌, Bool, false, ◌&&◌, ◌==◌, if◌then◌else◌, List, [], ◌++◌, fold, Option, Some, None, unwrap_or, option_map, option_and_then, option_to_list}
use Rattle.argo_base.specs.declared.message.Message.{Message}
use Rattle.argo_base.specs.Match.{key_of}
use Rattle.argo_model.specs.declared.action.Action.{Action}
use Rattle.argo_model.specs.declared.action.Action.TheVariants.{Put, Register, Deliver}
use Rattle.argo_model.specs.declared.action.Load.TheVariants.{Body}
use Rattle.argo_model.specs.Rules.State.{Live, Ring}
use Rattle.argo_model.specs.Rules.Puts.{move_of}
use Rattle.argo_model.specs.Rules.Register.{own_ring, stands_so}
use Rattle.argo_model.specs.Programs.Program.{caller_of}
use Rattle.argo_model.specs.Runs.Final.{accepted_size, is_accepted}
use Rattle.argo_model.specs.Rules.Outcomes.{is_done}
use Rattle.argo_model.specs.Laws.Transitions.{Transition}
use Rattle.argo_model.specs.Laws.RingNames.{RingName, is_owner, owner_in, is_met, standing}

-- the number is there
abbrev pub is_number : ℕ → Option ℕ → Bool
is_number n o = unwrap_or (option_map (λ m. m == n) o) false

-- the serial of the ring that a registration starts, by the ring that stood under the key: the next serial where none did, none
-- where it stood so already, and else its own
abbrev pub started_serial : Live → ℕ → List ℕ → Option Ring → Option ℕ
started_serial live len pages None = Some live.next_serial
started_serial live len pages (Some r) = if stands_so r len pages then None else Some r.serial

-- the serial of the ring that an action starts where it is done, by what its caller has
abbrev pub started_by : Action → Live → Option ℕ
started_by (Register port partner len pages fail_exist) live = started_serial live len pages (own_ring live (key_of port partner))
started_by a live = None

-- a step that starts the ring: its owner registers it, or registers it anew
abbrev pub starts_ring : RingName → Transition → Bool
starts_ring name t =
    is_owner t.actor name && is_done t.step.outcome
    && is_number name.serial (option_and_then (started_by t.step.action) (owner_in t.before name))

-- the message that a domain offers by an action, where the ring is the one that it meets
abbrev pub offered_to : RingName → Transition → ℕ → Action → Option Message
offered_to name t d (Deliver port to to_port kind (Body bytes)) =
    if is_met t.before name to to_port d then Some (record { src = d; port = port; kind = kind; body = bytes }) else None
offered_to name t d a = None

-- the message that a step brings into the ring, where it is accepted
abbrev pub brought_by : RingName → Transition → Option Message
brought_by name t =
    if is_accepted (accepted_size t.step.outcome) then offered_to name t (caller_of t.actor) t.step.action else None

-- how many untaken messages of the ring a step takes, where it is a proper move
abbrev pub moved_by : RingName → Transition → Action → Option ℕ
moved_by name t (Put page off bytes) = option_and_then (λ at. move_of at.live.bytes page off bytes at.ring) (standing t.before name)
moved_by name t a = None

-- how many messages a step takes from the ring
abbrev pub taken_by_step : RingName → Transition → ℕ
taken_by_step name t =
    if is_owner t.actor name && is_done t.step.outcome then unwrap_or (moved_by name t t.step.action) 0 else 0

-- the messages that were accepted since the ring's last start, in the order of their steps
abbrev pub accepted_after : RingName → List Message → Transition → List Message
accepted_after name ms t = if starts_ring name t then [] else ms ++ option_to_list (brought_by name t)

abbrev pub accepted_by : RingName → List Transition → List Message
accepted_by name transitions = fold (accepted_after name) [] transitions

-- how many of them the owner's proper moves took since then
abbrev pub taken_after : RingName → ℕ → Transition → ℕ
taken_after name n t = if starts_ring name t then 0 else n + taken_by_step name t

abbrev pub taken_from : RingName → List Transition → ℕ
taken_from name transitions = fold (taken_after name) 0 transitions
