-- Outcomes that end a recv.
use Rattle.std.specs.Prelude.{◌≡◌, ℕ, List, length}
use Rattle.argo_base.specs.declared.message.Message.{Message}
use Rattle.argo_model.specs.declared.action.Outcome.{Outcome}
use Rattle.guest_lib.specs.declared.received.Received.{Received}
use Rattle.argo_model.specs.Programs.Asks.{Rests, unless_gone, if_bytes, if_done}
use Rattle.argo_model.specs.Programs.Recv.{End, FoundMessage, FoundFault}
use Rattle.guest_lib.specs.Receiving.{ended}

-- a fetch with this outcome ends so, whatever its bytes would have led to
abbrev pub EndsFetch : Outcome → Received → Type 0
EndsFetch o received = (end : End) (k : List ℕ → Rests) (os : List Outcome) → unless_gone o (if_bytes (λ os. end FoundFault) k) os ≡ ended end received

-- the put of the rx word with this outcome ends so
abbrev pub EndsPut : Message → Outcome → Received → Type 0
EndsPut m o received = (end : End) (os : List Outcome) → unless_gone o (if_done (end FoundFault) (λ os. end (FoundMessage (length m.body) m))) os ≡ ended end received
