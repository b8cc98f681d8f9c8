-- The stages of a recv as the code has them.
use Rattle.std.specs.Prelude.{◌≡◌, ℕ, ◌+◌, ◌-◌, ◌^◌, ◌<◌, ◌≤◌, List, [], ◌∷◌, length, slice_get, Option, Some, None, sum_by, IsTrue, Bool, false, vec_capacity}
use Rattle.argo_base.specs.declared.piece.Piece.{Piece}
use Rattle.argo_base.specs.Slots.{is_place}
use Rattle.argo_model.specs.declared.action.Action.{Action}
use Rattle.argo_model.specs.declared.action.Action.TheVariants.{Fetch}
use Rattle.argo_model.specs.declared.action.Outcome.{Outcome}
use Rattle.argo_model.specs.declared.action.Outcome.TheVariants.{Bytes}
use Rattle.argo_model.specs.Rules.Outcomes.{can_have}
use Rattle.argo_model.specs.Programs.Asks.{Rests, Do, CanFollow}
use Rattle.argo_model.specs.Programs.Recv.{End, say_found}
use Rattle.guest_lib.specs.declared.own_ring.OwnRing.{OwnRing}
use Rattle.guest_lib.specs.declared.received.Received.{Received}
use Rattle.guest_lib.specs.declared.stage.BodyRead.{BodyRead}
use Rattle.guest_lib.specs.declared.stage.Stage.{Stage}
use Rattle.guest_lib.specs.declared.stage.Stage.TheVariants.{Rx, Tx, Head, Body, Word, Done}
use Rattle.guest_lib.specs.declared.stage.Onward.{Onward}
use Rattle.guest_lib.specs.declared.stage.Onward.TheVariants.{To, Ended}
use Rattle.guest_lib.specs.Receiving.{Step, ReadRx, ReadTx, ReadHead, ReadBody, PutRx, Over, ended, step_left, ahead_at, IsShort, message_with}

abbrev pub read_body : BodyRead → Step
read_body b = ReadBody b.slots b.got.items b.head b.word

-- what is to be done next
abbrev pub step_of : Stage → Step
step_of Rx = ReadRx
step_of (Tx rx) = ReadTx rx
step_of (Head rx tx) = ReadHead rx tx
step_of (Body b) = read_body b
step_of (Word word message) = PutRx word message
step_of Done = Over

-- the body's bytes are those that were fetched and those of the pieces left
abbrev pub HasBodySize : BodyRead → Type 0
HasBodySize b = length b.got.items + sum_by (λ (p : Piece). p.n) b.slots ≡ b.head.len - 16

-- a part of the body is still to be fetched, the size of a body is a number of 32 bits, and where the memory is there, the whole
-- body has room
pub record IsBody (ready : Bool) (b : BodyRead) : Type 0 where
  pub some : 0 < length b.slots
  pub size : HasBodySize b
  pub short : b.head.len < 2 ^ 32
  pub room : IsTrue ready → b.head.len - 16 ≤ vec_capacity b.got

-- the parts of the stage are as they must be
abbrev pub IsStage : ℕ → Bool → Stage → Type 0
IsStage len ready Rx = Unit {0}
IsStage len ready (Tx rx) = Unit {0}
IsStage len ready (Head rx tx) = IsTrue (is_place len rx) × (tx < len)
IsStage len ready (Body b) = IsBody ready b
IsStage len ready (Word word message) = length message.body < 2 ^ 32
IsStage len ready Done = Unit {0}

-- nothing of the stage is less ready than before
abbrev pub StaysReady : ℕ → Stage → Stage → Type 0
StaysReady len old new = (ready : Bool) → IsStage len ready old → IsStage len ready new

-- two steps are of one effect
abbrev pub GoAlike : Step → Step → Type 0
GoAlike a b = (end : End) (page len : ℕ) (os : List Outcome) → ahead_at end page len a os ≡ ahead_at end page len b os

-- this action is next
abbrev pub IsAction : OwnRing → Step → Action → Type 0
IsAction ring step a = (end : End) → ahead_at end ring.page ring.len step [] ≡ Do a

-- the outcome is one that the action of the step can have
abbrev pub CanHear : OwnRing → Step → Outcome → Type 0
CanHear ring step o = CanFollow (ahead_at say_found ring.page ring.len step []) o

-- the outcome is one that the fetch of the next piece can have
abbrev pub CanHearPiece : BodyRead → Outcome → Type 0
CanHearPiece b o = (p : Piece) → slice_get b.slots 0 ≡ Some p → IsTrue (can_have (Fetch p.page p.off p.n) o)

-- what the library still does from there
abbrev pub rest_onward : End → OwnRing → Onward → Rests
rest_onward end ring (To stage) os = ahead_at end ring.page ring.len (step_of stage) os
rest_onward end ring (Ended received) os = ended end received

-- a stage that is to come has an action to come
abbrev pub IsOnward : ℕ → Onward → Type 0
IsOnward len (To stage) = IsStage len false stage × (0 < step_left (step_of stage))
IsOnward len (Ended received) = IsShort received

abbrev pub onward_left : Onward → ℕ
onward_left (To stage) = step_left (step_of stage)
onward_left (Ended received) = 0

-- the library goes on there after a step with this outcome
pub record Follows (ring : OwnRing) (step : Step) (o : Outcome) (onward : Onward) : Type 0 where
  pub rest : (end : End) (os : List Outcome) → ahead_at end ring.page ring.len step (o ∷ os) ≡ rest_onward end ring onward os
  pub ready : IsOnward ring.len onward
  pub nearer : onward_left onward < step_left step

-- with the bytes of its fetch a recv goes on to this stage, or comes to its end
abbrev pub Hears : OwnRing → Step → List ℕ → Option Received → Stage → Type 0
Hears ring step bytes None stage = Follows ring step (Bytes bytes) (To stage)
Hears ring step bytes (Some received) stage = Follows ring step (Bytes bytes) (Ended received) × (stage ≡ Done)

-- the rx word is to be put, and then the message is taken
abbrev pub word_stage : BodyRead → Stage
word_stage b = Word b.word (message_with b.head b.got.items)
