-- What the bytes of a clean ring are.
use Rattle.std.specs.Prelude.{◌≡◌, ℕ, IsTrue, List}
use Rattle.argo_base.specs.declared.message.Message.{Message}
use Rattle.argo_base.specs.Slots.{is_place}
use Rattle.argo_model.specs.Rules.Holds.{Holds}
use Rattle.argo_model.specs.Rules.RingBytes.{rx_word, tx_word, slots}

-- the tx word tells where the next message is written, the rx word is a place of the ring, and between them the slots hold the
-- messages that were not taken
pub record IsClean (len tx : ℕ) (untaken : List Message) (own : List ℕ) : Type 0 where
  pub tx_is : tx_word own ≡ tx
  pub rx_place : IsTrue (is_place len (rx_word own))
  pub holds : Holds (slots len own) len (rx_word own) tx untaken
