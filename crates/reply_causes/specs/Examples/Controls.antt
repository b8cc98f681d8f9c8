-- Worked examples of the tables of destroy, reset, create and unknown commands.
use Rattle.std.specs.Prelude.{◌≡◌, [], pos}
use Rattle.argo_model.specs.declared.reply.Reply.TheVariants.{Number}
use Rattle.argo_model.specs.Rules.State.{State}
use Rattle.argo_model.specs.Programs.Program.{command_of}
use Rattle.reply_causes.specs.ControlCauses.{cause_of_destroy, cause_of_reset, cause_of_create}
use Rattle.reply_causes.specs.Causes.{cause_of_op}
use Rattle.reply_causes.specs.Examples.Words.{both_of, pageless, departed, call_with, minus}

-- domain 1 is alive, domain 2 is gone, and there is no domain 3
abbrev pub one_alive : State
one_alive = both_of pageless departed

pub record ControlRows : Type 0 where
  pub destroy_gone : cause_of_destroy 2 one_alive ≡ minus 3
  pub destroy_unknown : cause_of_destroy 3 one_alive ≡ minus 3
  pub destroyed : cause_of_destroy 1 one_alive ≡ Number (pos 0)
  pub reset_gone : cause_of_reset 2 one_alive ≡ minus 3
  pub reset : cause_of_reset 1 one_alive ≡ Number (pos 0)
  pub create_unknown : cause_of_create 3 one_alive ≡ minus 3
  pub create_alive : cause_of_create 1 one_alive ≡ minus 17
  pub created : cause_of_create 2 one_alive ≡ Number (pos 0)
  pub unknown_command : cause_of_op (command_of 5) (call_with 0 0 0 0) [] ≡ minus 95
