-- What contracts see of a ring's untaken messages.
use Rattle.std.specs.Prelude.{Bool, List}
use Rattle.argo_base.specs.declared.message.Message.{Message}

-- the messages, oldest first, and whether one more has room without memory
pub record Listed : Type 0 where
  pub messages : List Message
  pub has_room : Bool
