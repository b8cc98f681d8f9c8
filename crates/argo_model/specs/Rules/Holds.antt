-- When slot bytes hold messages, whole and in order.
use Rattle.std.specs.Prelude.{◌≡◌, ℕ, ◌<◌, List, [], ◌∷◌, length, take, sum_by}
use Rattle.argo_base.specs.declared.message.Message.{Message}
pub use Rattle.argo_base.specs.SlotBytes.{bytes_from}
use Rattle.argo_base.specs.Slots.{place_after}
use Rattle.argo_model.specs.Rules.Messages.{spell, room_of}

-- from a place to another the slots spell the messages, each where the room of the one before it ends
abbrev pub HoldsFrom : List ℕ → ℕ → ℕ → ℕ → List Message → Type 0
HoldsFrom slots len from to [] = from ≡ to
HoldsFrom slots len from to (m ∷ ms) =
    (take (length (spell m)) (bytes_from from slots) ≡ spell m) × HoldsFrom slots len (place_after len from (room_of m)) to ms

-- the slots hold these messages between the rx word's place and the hypervisor's, and never all slot bytes are taken
pub record Holds (slots : List ℕ) (len rx tx : ℕ) (messages : List Message) : Type 0 where
  pub leaves_room : sum_by room_of messages < len
  pub spelled : HoldsFrom slots len rx tx messages
