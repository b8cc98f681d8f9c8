-- Why stores, loads and awaits have their replies.
use Rattle.std.specs.Prelude.{ℕ, List, length, Option, Some, None, is_none}
use Rattle.std.specs.List.{list_any}
use Rattle.argo_base.specs.Pieces.{pieces}
use Rattle.argo_model.specs.declared.reply.Reply.{Reply}
use Rattle.argo_model.specs.declared.reply.Reply.TheVariants.{Stored, Hex, Signal, NoSignal, Fault}
use Rattle.argo_model.specs.Rules.State.{State}
use Rattle.argo_model.specs.Laws.NoticeEnds.{has_flag}
use Rattle.argo_model.specs.Laws.SendCauses.{found}
use Rattle.reply_causes.specs.Tables.{case}

-- a piece of the range was absent when its step put it; or the bytes are stored
abbrev pub cause_of_store : ℕ → ℕ → List ℕ → List State → Reply
cause_of_store d at bytes states = case (is_none (found d (pieces at (length bytes)) states)) Fault Stored

abbrev pub hex_or_fault : Option (List ℕ) → Reply
hex_or_fault None = Fault
hex_or_fault (Some bs) = Hex bs

-- a piece of the range was absent when its step fetched it; or the reply is the bytes, each piece as its own step found it
abbrev pub cause_of_load : ℕ → ℕ → ℕ → List State → Reply
cause_of_load d at n states = hex_or_fault (found d (pieces at n) states)

-- a look found the flag; or none did
abbrev pub cause_of_await : ℕ → List State → Reply
cause_of_await d states = case (list_any (λ s. has_flag s d) states) Signal NoSignal
