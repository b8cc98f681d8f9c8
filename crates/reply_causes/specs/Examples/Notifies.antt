-- Worked examples of the table of notify.
use Rattle.std.specs.Prelude.{◌≡◌, ℕ, Bool, true, false, List, [], ◌∷◌, ◌++◌, replicate, pos}
use Rattle.argo_base.specs.Layout.{addr_bytes, ring_data_bytes, ring_data_entry_bytes}
use Rattle.argo_base.specs.declared.ring_key.RingKey.{RingKey}
use Rattle.argo_model.specs.declared.reply.Reply.TheVariants.{Number}
use Rattle.argo_model.specs.Rules.State.{State, Ring}
use Rattle.reply_causes.specs.Tables.{Call}
use Rattle.reply_causes.specs.NotifyCauses.{cause_of_notify}
use Rattle.reply_causes.specs.Examples.Words.{page_with, living, both_of, pageless, ring_for, call_with, minus}

-- domain 1 has at 16 the head of so many entries, and behind it one entry
abbrev pub asking : Bool → (entries pad entry_pad : ℕ) → List (RingKey × Ring) → State
asking on entries pad entry_pad rings =
    both_of (living on (page_with (replicate 16 0 ++ (ring_data_bytes entries pad ++ ring_data_entry_bytes (addr_bytes 5 2 entry_pad) 0 0 10 0))) rings) pageless

-- it has no rings, and asks by one entry
abbrev pub one_question : State
one_question = asking true 1 0 0 []

-- the domain is off, or has no page
abbrev pub off : State
off = asking false 1 0 0 []

abbrev pub bare : State
bare = both_of pageless pageless

abbrev pub with_data : Call
with_data = call_with 16 0 0 0

pub record NotifyRows : Type 0 where
  pub second_argument : cause_of_notify (call_with 16 1 0 0) (one_question ∷ []) ≡ minus 22
  pub off_at_first_sweep : cause_of_notify with_data (off ∷ []) ≡ minus 19
  pub off_at_second_sweep : cause_of_notify with_data (asking true 1 0 0 (ring_for 5 2 ∷ []) ∷ off ∷ []) ≡ minus 19
  pub no_data : cause_of_notify (call_with 0 0 0 0) (one_question ∷ []) ≡ Number (pos 0)
  pub no_data_after_a_sweep : cause_of_notify (call_with 0 0 0 0) (replicate 2 (asking true 1 0 0 (ring_for 5 2 ∷ []))) ≡ Number (pos 0)
  pub absent_head : cause_of_notify with_data (one_question ∷ bare ∷ []) ≡ minus 14
  pub head_pad : cause_of_notify with_data (replicate 2 (asking true 1 1 0 [])) ≡ minus 22
  pub too_many : cause_of_notify with_data (replicate 2 (asking true 257 0 0 [])) ≡ minus 13
  pub no_entries : cause_of_notify with_data (replicate 2 (asking true 0 0 0 [])) ≡ Number (pos 0)
  pub absent_entry : cause_of_notify with_data (one_question ∷ one_question ∷ bare ∷ []) ≡ minus 14
  pub entry_pad : cause_of_notify with_data (replicate 3 (asking true 1 0 1 [])) ≡ minus 22
  pub off_at_question : cause_of_notify with_data (replicate 3 one_question ++ off ∷ []) ≡ minus 19
  pub absent_answer : cause_of_notify with_data (replicate 4 one_question ++ bare ∷ []) ≡ minus 14
  pub answered : cause_of_notify with_data (replicate 5 one_question) ≡ Number (pos 0)
