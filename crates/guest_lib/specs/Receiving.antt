-- How far the library is with a message, and what it still does from there on.
use Rattle.std.specs.Prelude.{◌≡◌, ℕ, ◌+◌, ◌-◌, ◌*◌, ◌^◌, ◌<◌, Bool, true, false, List, [], ◌∷◌, length, Option, Some, None, IsTrue}
use Rattle.argo_base.specs.declared.message.Message.{Message}
use Rattle.argo_base.specs.declared.piece.Piece.{Piece}
use Rattle.argo_abi.specs.declared.message_head.MessageHead.{MessageHead}
use Rattle.argo_model.specs.declared.action.Action.{Action}
use Rattle.argo_model.specs.declared.action.Action.TheVariants.{Fetch, Put}
use Rattle.argo_model.specs.declared.action.Outcome.{Outcome}
use Rattle.argo_model.specs.Rules.Access.{fetch_of}
use Rattle.guest_lib.specs.declared.ask.Ask.{Ask}
use Rattle.guest_lib.specs.declared.ask.Ask.TheVariants.{Fetch as AskFetch, Put as AskPut}
use Rattle.guest_lib.specs.declared.received.Received.{Received}
use Rattle.guest_lib.specs.declared.received.Received.TheVariants.{Msg, Empty, Bad, Fault, Gone}
use Rattle.argo_model.specs.declared.reply.Reply.TheVariants.{Gone as gone}
use Rattle.argo_model.specs.Programs.Asks.{Next, Do, Say, Rests, CanFollow, fetch_all}
use Rattle.argo_model.specs.Programs.Recv.{FoundMessage, FoundEmpty, FoundBad, FoundFault, End, receive, say_found, recv_tx, recv_head, take_slots, put_rx}
use Rattle.argo_model.specs.Rules.Outcomes.{can_have}

-- what is to be done next
pub data Step : Type 0 where
  ReadRx : Step
  ReadTx : (rx : ℕ) → Step
  ReadHead : (rx : ℕ) → (tx : ℕ) → Step
  ReadBody : (left : List Piece) → (got : List ℕ) → (head : MessageHead) → (word : ℕ) → Step
  PutRx : (word : ℕ) → (message : Message) → Step
  Over : Step

-- a recv from a ring of len slot bytes that begins on a page; `ready`: the memory for the next outcome is there
pub record Receiving : Type 0 where
  pub page : ℕ
  pub len : ℕ
  pub step : Step
  pub ready : Bool

-- the message with this header and this body
abbrev pub message_with : MessageHead → List ℕ → Message
message_with head body = record { src = head.source.domain_id; port = head.source.aport; kind = head.message_type; body = body }

-- the header at rx is fetched, and what follows it
abbrev pub head_ahead : End → ℕ → ℕ → ℕ → ℕ → Rests
head_ahead end page len rx tx os = take_slots end (page * 4096) len rx 16 (recv_head end (page * 4096) len rx tx) os

-- what the library still does, for a ring that begins on a page
abbrev pub ahead_at : End → ℕ → ℕ → Step → Rests
ahead_at end page len ReadRx os = receive end page len os
ahead_at end page len (ReadTx rx) os = recv_tx end (page * 4096) len rx os
ahead_at end page len (ReadHead rx tx) os = head_ahead end page len rx tx os
ahead_at end page len (ReadBody left got head word) os =
    fetch_all left got (end FoundFault) (λ body os. put_rx end (page * 4096) word (head.len - 16) (message_with head body) os) os
ahead_at end page len (PutRx word message) os = put_rx end (page * 4096) word (length message.body) message os
ahead_at end page len Over os = Say gone

abbrev pub ahead : End → Receiving → Rests
ahead end r os = ahead_at end r.page r.len r.step os

-- how many actions are to come at most: a body has at most 4,100 pieces
abbrev pub step_left : Step → ℕ
step_left ReadRx = 4104
step_left (ReadTx rx) = 4103
step_left (ReadHead rx tx) = 4102
step_left (ReadBody left got head word) = length left + 1
step_left (PutRx word message) = 1
step_left Over = 0

abbrev pub left_of : Receiving → ℕ
left_of r = step_left r.step

-- what follows what the library came to: a message has the whole of its body, and a caller that is gone is gone whatever follows
abbrev pub ended : End → Received → Next
ended end (Msg m) = end (FoundMessage (length m.body) m)
ended end Empty = end FoundEmpty
ended end Bad = end FoundBad
ended end Fault = end FoundFault
ended end Gone = Say gone

-- the size of a body is a number of 32 bits
abbrev pub IsShort : Received → Type 0
IsShort (Msg m) = length m.body < 2 ^ 32
IsShort Empty = Unit {0}
IsShort Bad = Unit {0}
IsShort Fault = Unit {0}
IsShort Gone = Unit {0}

-- what follows an outcome: the rest from there, or the end
abbrev pub followed : End → Receiving → Option Received → Rests
followed end r None os = ahead end r os
followed end r (Some received) os = ended end received

-- the library is at the start of its program, for a ring of len slot bytes that begins on a page
abbrev pub Starts : ℕ → ℕ → Receiving → Type 0
Starts page len r = (end : End) (os : List Outcome) → ahead end r os ≡ receive end page len os

-- what the library asks for, as an action of the machine
abbrev pub action_of : Ask → Action
action_of (AskFetch piece) = fetch_of piece
action_of (AskPut page off word) = Put page off word

-- this action is next
abbrev pub IsNext : Receiving → Action → Type 0
IsNext r a = (end : End) → ahead end r [] ≡ Do a

-- the library fetches and puts bytes, and does nothing else
abbrev pub is_transfer : Action → Bool
is_transfer (Fetch page off n) = true
is_transfer (Put page off bytes) = true
is_transfer a = false

-- the library is not at its end: it has an action to come, which moves bytes
pub record IsUnderWay (r : Receiving) : Type 0 where
  pub left : 0 < left_of r
  pub next : (a : Action) × IsTrue (is_transfer a) × IsNext r a

abbrev pub CanFeed : Receiving → Outcome → Type 0
CanFeed r o = CanFollow (ahead say_found r []) o

-- all outcomes that an action can have are such
abbrev pub FeedsAll : Action → Receiving → Type 0
FeedsAll a r = (o : Outcome) → IsTrue (can_have a o) → CanFeed r o

-- with an outcome the program goes on: to what the library still does, or to its end
abbrev pub GoesOn : Receiving → Outcome → Option Received → Receiving → Type 0
GoesOn old o result new = (end : End) (os : List Outcome) → ahead end old (o ∷ os) ≡ followed end new result os
