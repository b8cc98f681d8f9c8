-- What a ring answers to an offer.
use Rattle.std.specs.Prelude.{ℕ, Bool, ◌&&◌, not, Option, Some, None}
use Rattle.argo_base.specs.declared.errno.Errno.{Errno}
use Rattle.argo_base.specs.declared.errno.Errno.TheVariants.{MsgSize, Again, Busy as IsBusy, Fault}
use Rattle.argo_model.specs.declared.action.Load.{Load}
use Rattle.argo_model.specs.declared.action.Load.TheVariants.{Body, Faulted as FaultedLoad, Refused as RefusedLoad}
use Rattle.argo_model.specs.declared.action.Outcome.{Outcome}
use Rattle.argo_model.specs.declared.action.Outcome.TheVariants.{Accepted as IsAccepted, Refused as IsRefused}
use Rattle.argo_base.specs.Slots.{fits, is_too_big}
use Rattle.argo_model.specs.Rules.Deliver.{wait_for_room}
use Rattle.argo_model.specs.Rules.Effects.{Change, refuse_if}
use Rattle.argo_model.specs.Rules.RingBytes.{PagedRing, free}
use Rattle.ring_core.specs.declared.accept.Accept.{Accept}
use Rattle.ring_core.specs.declared.accept.Accept.TheVariants.{Refused, TooBig, Busy, NoRoom, Faulted, Accepted}

-- the outcome of a send with this answer
abbrev pub outcome_of : Accept → Outcome
outcome_of (Refused e) = IsRefused e
outcome_of TooBig = IsRefused MsgSize
outcome_of Busy = IsRefused IsBusy
outcome_of NoRoom = IsRefused Again
outcome_of Faulted = IsRefused Fault
outcome_of (Accepted n) = IsAccepted n

-- the refusal of the buffers that the answer hands on
abbrev pub refusal_of : Accept → Option Errno
refusal_of (Refused e) = Some e
refusal_of TooBig = None
refusal_of Busy = None
refusal_of NoRoom = None
refusal_of Faulted = None
refusal_of (Accepted n) = None

-- the refusal of the buffers that was offered
abbrev pub refusal_in : Load → Option Errno
refusal_in (RefusedLoad e) = Some e
refusal_in (FaultedLoad n) = None
refusal_in (Body bytes) = None

-- a body of n bytes can fit into the ring, and does now
abbrev pub has_room_for : PagedRing → ℕ → Bool
has_room_for p n = not (is_too_big p.ring.len n) && fits (free p) n

-- a body of n bytes that does not fit, ever or now
abbrev pub turned_away : PagedRing → ℕ → ℕ → Change PagedRing
turned_away p sender n = refuse_if (is_too_big p.ring.len n) MsgSize (wait_for_room p sender n)
