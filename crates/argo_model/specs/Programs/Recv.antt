-- The guest's library takes one message from a ring of its own.
use Rattle.std.specs.Prelude.{ℕ, ◌+◌, ◌-◌, ◌*◌, ◌%◌, min, Bool, true, false, ◌&&◌, not, ◌==◌, nat_lt, List, [], ◌++◌, take}
use Rattle.argo_base.specs.declared.message.Message.{Message}
use Rattle.argo_base.specs.declared.piece.Piece.{Piece}
use Rattle.argo_base.specs.Slots.{up, is_place, place_after}
use Rattle.argo_base.specs.Layout.{u16_at, u32_at, u32_bytes}
use Rattle.argo_base.specs.Pieces.{pieces}
use Rattle.argo_model.specs.declared.reply.Reply.TheVariants.{Msg, Empty, Bad, Fault}
use Rattle.argo_model.specs.Programs.Asks.{Next, Say, Rests, fetch_all, put_all}

-- what the library finds: a message, with the size of its body that the header tells; or none, and why
pub data Found : Type 0 where
  FoundMessage : (size : ℕ) → (message : Message) → Found
  FoundEmpty : Found
  FoundBad : Found
  FoundFault : Found

-- what follows what it found
abbrev pub End : Type 0
End = Found → Next

-- ends so where the test holds, and else goes on
abbrev pub end_if : Bool → Next → Rests → Rests
end_if true end k os = end
end_if false end k os = k os

-- the pieces of n slot bytes from a place on, in a ring at an address: up to its end, and the rest from place 0 on
abbrev pub slot_pieces : ℕ → ℕ → ℕ → ℕ → List Piece
slot_pieces ring len at n = pieces (ring + 64 + at) (min n (len - at)) ++ pieces (ring + 64) (n - (len - at))

-- fetches n bytes of a ring's slots
abbrev pub take_slots : End → ℕ → ℕ → ℕ → ℕ → (List ℕ → Rests) → Rests
take_slots end ring len at n k os = fetch_all (slot_pieces ring len at n) [] (end FoundFault) k os

-- the message with this header and this body
abbrev pub message_of : List ℕ → List ℕ → Message
message_of head body = record { src = u16_at head 8; port = u32_at head 4; kind = u32_at head 12; body = body }

-- the rx word moves, and the message is found
abbrev pub put_rx : End → ℕ → ℕ → ℕ → Message → Rests
put_rx end ring rx size message os =
    put_all (pieces ring 4) (u32_bytes rx) (end FoundFault) (λ os. end (FoundMessage size message)) os

-- the rx word moves past the message
abbrev pub recv_body : End → ℕ → ℕ → ℕ → List ℕ → List ℕ → Rests
recv_body end ring len rx head body os =
    put_rx end ring (place_after len rx (up (u32_at head 0))) (u32_at head 0 - 16) (message_of head body) os

-- the length m in a header counts the header, and the message ends at the tx word or before it
abbrev pub is_message_size : ℕ → ℕ → ℕ → ℕ → Bool
is_message_size len rx tx m = not (nat_lt m 16) && not (nat_lt ((len + tx - rx) % len) (up m))

-- then the body is fetched
abbrev pub recv_head : End → ℕ → ℕ → ℕ → ℕ → List ℕ → Rests
recv_head end ring len rx tx head os =
    end_if (not (is_message_size len rx tx (u32_at head 0))) (end FoundBad)
    (λ os. take_slots end ring len (place_after len rx 16) (u32_at head 0 - 16) (recv_body end ring len rx head) os) os

-- both words are places of the ring; where they are the same it is empty, and else a message begins at the rx word
abbrev pub recv_words : End → ℕ → ℕ → ℕ → ℕ → Rests
recv_words end ring len rx tx os =
    end_if (not (is_place len rx && is_place len tx)) (end FoundBad)
    (λ os. end_if (rx == tx) (end FoundEmpty) (λ os. take_slots end ring len rx 16 (recv_head end ring len rx tx) os) os) os

-- the tx word is fetched after this rx word
abbrev pub recv_tx : End → ℕ → ℕ → ℕ → Rests
recv_tx end ring len rx os =
    fetch_all (pieces (ring + 4) 4) [] (end FoundFault) (λ tx os. recv_words end ring len rx (u32_at tx 0) os) os

-- the rx word is fetched, and then the tx word
abbrev pub recv_at : End → ℕ → ℕ → Rests
recv_at end ring len os =
    fetch_all (pieces ring 4) [] (end FoundFault) (λ rx os. recv_tx end ring len (u32_at rx 0) os) os

-- the library's program: the ring stands on a page and those that follow it
abbrev pub receive : End → ℕ → ℕ → Rests
receive end page len os = recv_at end (page * 4096) len os

-- the reply that shows what was found: of a body its size and its first 64 bytes
abbrev pub say_found : End
say_found (FoundMessage size m) = Say (Msg m.src m.port m.kind size (take 64 m.body))
say_found FoundEmpty = Say Empty
say_found FoundBad = Say Bad
say_found FoundFault = Say Fault

-- `recv`: the library's program, and its reply
abbrev pub recv : ℕ → ℕ → Rests
recv page len os = receive say_found page len os
