-- Why the acts of the control section have their replies.
use Rattle.std.specs.Prelude.{ℕ, not, is_none}
use Rattle.argo_base.specs.declared.errno.Errno.TheVariants.{Srch, Exist}
use Rattle.argo_model.specs.declared.reply.Reply.{Reply}
use Rattle.argo_model.specs.Rules.State.{State, domain_of, is_alive}
use Rattle.argo_model.specs.Laws.SendCauses.{row}
use Rattle.reply_causes.specs.Tables.{zero_reply}

-- the domain is not alive; or it is ended
abbrev pub cause_of_destroy : ℕ → State → Reply
cause_of_destroy d s = row (not (is_alive s d)) Srch zero_reply

-- the domain is not alive; or it is reset
abbrev pub cause_of_reset : ℕ → State → Reply
cause_of_reset d s = row (not (is_alive s d)) Srch zero_reply

-- there is no such domain; it is alive; or it is made anew
abbrev pub cause_of_create : ℕ → State → Reply
cause_of_create d s = row (is_none (domain_of s d)) Srch (row (is_alive s d) Exist zero_reply)
