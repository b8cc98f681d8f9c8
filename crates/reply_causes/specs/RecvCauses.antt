-- Why a recv has its reply.
use Rattle.std.specs.Prelude.{ℕ, ◌+◌, ◌-◌, not, ◌&&◌, ◌==◌, List, length, take, drop, is_none, unwrap_or, Option, []}
use Rattle.argo_base.specs.declared.piece.Piece.{Piece}
use Rattle.argo_base.specs.Layout.{u16_at, u32_at}
use Rattle.argo_base.specs.Pieces.{pieces}
use Rattle.argo_base.specs.Slots.{is_place, place_after}
use Rattle.argo_model.specs.declared.reply.Reply.{Reply}
use Rattle.argo_model.specs.declared.reply.Reply.TheVariants.{Msg, Empty, Bad, Fault}
use Rattle.argo_model.specs.Rules.State.{State}
use Rattle.argo_model.specs.Programs.Recv.{slot_pieces, is_message_size}
use Rattle.argo_model.specs.Laws.SendCauses.{found}
use Rattle.reply_causes.specs.Tables.{case}

-- what a recv looked at, each none where a piece of it was absent when its step looked: the two words of the ring, the header of a
-- message, its body, and the rx word again, when it was put
pub record Looked : Type 0 where
  pub rx : Option (List ℕ)
  pub tx : Option (List ℕ)
  pub head : Option (List ℕ)
  pub body : Option (List ℕ)
  pub moved : Option (List ℕ)

-- the words as numbers
abbrev pub rx_of : Looked → ℕ
rx_of l = u32_at (unwrap_or l.rx []) 0

abbrev pub tx_of : Looked → ℕ
tx_of l = u32_at (unwrap_or l.tx []) 0

abbrev pub head_of : Looked → List ℕ
head_of l = unwrap_or l.head []

-- the message with this header and this body, of which the reply shows the first 64 bytes
abbrev pub received : List ℕ → List ℕ → Reply
received head body = Msg (u16_at head 8) (u32_at head 4) (u32_at head 12) (u32_at head 0 - 16) (take 64 body)

-- an absent word; a word that is no place of the ring; equal words; an absent header; one that makes no sense; an absent body; an
-- absent rx word when it was put; or the message
abbrev pub cause_of_recv : ℕ → Looked → Reply
cause_of_recv len l =
    case (is_none l.rx) Fault (
    case (is_none l.tx) Fault (
    case (not (is_place len (rx_of l) && is_place len (tx_of l))) Bad (
    case (rx_of l == tx_of l) Empty (
    case (is_none l.head) Fault (
    case (not (is_message_size len (rx_of l) (tx_of l) (u32_at (head_of l) 0))) Bad (
    case (is_none l.body) Fault (
    case (is_none l.moved) Fault (received (head_of l) (unwrap_or l.body [])))))))))

-- the pieces of the ring that a recv looks at: the rx word, the tx word, and at a place the header and the body of a message
abbrev pub rx_pieces : ℕ → List Piece
rx_pieces ring = pieces ring 4

abbrev pub tx_pieces : ℕ → List Piece
tx_pieces ring = pieces (ring + 4) 4

abbrev pub head_pieces : ℕ → ℕ → ℕ → List Piece
head_pieces ring len rx = slot_pieces ring len rx 16

abbrev pub body_pieces : ℕ → ℕ → ℕ → List ℕ → List Piece
body_pieces ring len rx head = slot_pieces ring len (place_after len rx 16) (u32_at head 0 - 16)

-- how many steps the words take, and how many they take with the header, and with the body
abbrev pub word_steps : ℕ → ℕ
word_steps ring = length (rx_pieces ring) + length (tx_pieces ring)

abbrev pub head_steps : ℕ → ℕ → ℕ → ℕ
head_steps ring len rx = word_steps ring + length (head_pieces ring len rx)

abbrev pub body_steps : ℕ → ℕ → ℕ → List ℕ → ℕ
body_steps ring len rx head = head_steps ring len rx + length (body_pieces ring len rx head)

-- each of them as its steps found it
abbrev pub rx_found : ℕ → ℕ → List State → Option (List ℕ)
rx_found d ring states = found d (rx_pieces ring) states

abbrev pub rx_in : ℕ → ℕ → List State → ℕ
rx_in d ring states = u32_at (unwrap_or (rx_found d ring states) []) 0

abbrev pub head_found : ℕ → ℕ → ℕ → List State → Option (List ℕ)
head_found d ring len states = found d (head_pieces ring len (rx_in d ring states)) (drop (word_steps ring) states)

abbrev pub head_in : ℕ → ℕ → ℕ → List State → List ℕ
head_in d ring len states = unwrap_or (head_found d ring len states) []

abbrev pub body_found : ℕ → ℕ → ℕ → List State → Option (List ℕ)
body_found d ring len states =
    found d (body_pieces ring len (rx_in d ring states) (head_in d ring len states)) (drop (head_steps ring len (rx_in d ring states)) states)

abbrev pub moved_found : ℕ → ℕ → ℕ → List State → Option (List ℕ)
moved_found d ring len states =
    found d (rx_pieces ring) (drop (body_steps ring len (rx_in d ring states) (head_in d ring len states)) states)

-- what a recv looked at in a ring, in the states at its steps
abbrev pub recv_looked : ℕ → ℕ → ℕ → List State → Looked
recv_looked d ring len states =
    record {
      rx = rx_found d ring states;
      tx = found d (tx_pieces ring) (drop (length (rx_pieces ring)) states);
      head = head_found d ring len states;
      body = body_found d ring len states;
      moved = moved_found d ring len states;
    }
