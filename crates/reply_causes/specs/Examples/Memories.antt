-- Worked examples of the tables of store, load and await.
use Rattle.std.specs.Prelude.{◌≡◌, true, [], ◌∷◌}
use Rattle.argo_model.specs.declared.reply.Reply.TheVariants.{Stored, Hex, Signal, NoSignal, Fault}
use Rattle.argo_model.specs.Rules.State.{State, signal}
use Rattle.reply_causes.specs.MemoryCauses.{cause_of_store, cause_of_load, cause_of_await}
use Rattle.reply_causes.specs.Examples.Words.{page_with, living, both_of, pageless}

-- domain 1 has one page, which begins with 7, 8 and 9; and the same when it has its flag
abbrev pub quiet : State
quiet = both_of (living true (page_with (7 ∷ 8 ∷ 9 ∷ [])) []) pageless

abbrev pub flagged_one : State
flagged_one = signal quiet 1

pub record MemoryRows : Type 0 where
  pub store_absent : cause_of_store 1 4094 (1 ∷ 2 ∷ 3 ∷ []) (quiet ∷ quiet ∷ []) ≡ Fault
  pub stored : cause_of_store 1 4093 (1 ∷ 2 ∷ 3 ∷ []) (quiet ∷ []) ≡ Stored
  pub load_absent : cause_of_load 1 4096 1 (quiet ∷ []) ≡ Fault
  pub loaded : cause_of_load 1 1 2 (quiet ∷ []) ≡ Hex (8 ∷ 9 ∷ [])
  pub signal : cause_of_await 1 (quiet ∷ flagged_one ∷ []) ≡ Signal
  pub no_signal : cause_of_await 1 (quiet ∷ quiet ∷ []) ≡ NoSignal
