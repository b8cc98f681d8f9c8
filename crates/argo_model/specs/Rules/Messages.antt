-- A message as it stands in the slots of a ring.
use Rattle.std.specs.Prelude.{ℕ, ◌+◌, List, ◌++◌, length}
use Rattle.argo_base.specs.declared.message.Message.{Message}
use Rattle.argo_base.specs.Slots.{room}
use Rattle.argo_base.specs.Layout.{addr_bytes, message_head_bytes}

-- its 16 header bytes, with the sender's true domain and the port that the sender named, and then its body
abbrev pub spell : Message → List ℕ
spell m = message_head_bytes (length m.body + 16) (addr_bytes m.port m.src 0) m.kind ++ m.body

-- the slot bytes that it takes
abbrev pub room_of : Message → ℕ
room_of m = room (length m.body)
