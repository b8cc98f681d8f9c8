-- Why notify has its reply.
use Rattle.std.specs.Prelude.{ℕ, zero, suc, ◌+◌, Bool, not, ◌&&◌, ◌==◌, nat_lt, if◌then◌else◌, List, [], ◌∷◌, length, drop, slice_get, is_none, unwrap_or, option_and_then, Option, Some, None}
use Rattle.argo_base.specs.declared.errno.Errno.TheVariants.{Acces, Fault as efault, NoDev, Inval}
use Rattle.argo_base.specs.declared.ring_key.RingKey.{RingKey}
use Rattle.argo_base.specs.Layout.{u16_at, u32_at}
use Rattle.argo_base.specs.Pieces.{pieces}
use Rattle.argo_model.specs.declared.reply.Reply.{Reply}
use Rattle.argo_model.specs.Rules.State.{State, Ring, live_of, is_on}
use Rattle.argo_model.specs.Rules.Limits.{most_rings, most_entries}
use Rattle.argo_model.specs.Rules.Sweep.{next_ring}
use Rattle.argo_model.specs.Programs.Notify.{entries_at}
use Rattle.argo_model.specs.Programs.Register.{has_more}
use Rattle.argo_model.specs.Laws.SendCauses.{found, says, row}
use Rattle.reply_causes.specs.Tables.{Call, zero_reply}

-- the ring of a domain that is swept next after a serial
abbrev pub ring_after : State → ℕ → ℕ → Option (RingKey × Ring)
ring_after s d serial = option_and_then (λ live. next_ring serial live.rings) (live_of s d)

-- where a ring was swept, the sweep after its serial is next, and else the states that are left
abbrev pub swept : Option (RingKey × Ring) → (ℕ → Option (List State)) → List State → Option (List State)
swept None more states = Some states
swept (Some e) more states = more e.1.serial

-- the states that the steps after the sweeps found, of at most so many sweeps, the first of them after a serial; none where the
-- caller was off at one of them
abbrev pub after_sweeps : ℕ → ℕ → ℕ → List State → Option (List State)
after_sweeps d zero serial states = Some states
after_sweeps d (suc n) serial [] = Some []
after_sweeps d (suc n) serial (s ∷ states) =
    if not (is_on s d) then None else swept (ring_after s d serial) (λ next. after_sweeps d n next states) states

-- what the steps of an entry looked at: its 20 bytes, the state at its question, and the bytes of its answer when they were put
pub record Looked : Type 0 where
  pub entry : Option (List ℕ)
  pub state : State
  pub answer : Option (List ℕ)

-- a pad of an entry is not 0
abbrev pub has_pad : List ℕ → Bool
has_pad entry = not ((u16_at entry 6 == 0) && (u16_at entry 10 == 0))

-- an absent entry; a pad; a caller that is off; an absent place for the answer; and then the next entry
abbrev pub cause_of_entry : ℕ → Looked → Reply → Reply
cause_of_entry d l rest =
    row (is_none l.entry) efault (
    row (has_pad (unwrap_or l.entry [])) Inval (
    row (not (is_on l.state d)) NoDev (
    row (is_none l.answer) efault rest)))

-- how many steps the bytes of an entry take, and how many they take with the question
abbrev pub entry_steps : ℕ → ℕ
entry_steps at = length (pieces at 20)

abbrev pub question_steps : ℕ → ℕ
question_steps at = entry_steps at + 1

-- what the steps of the entry at an address looked at
abbrev pub entry_looked : ℕ → ℕ → List State → Looked
entry_looked d at states =
    record {
      entry = found d (pieces at 20) states;
      state = unwrap_or (slice_get states (entry_steps at)) [];
      answer = found d (pieces (at + 8) 12) (drop (question_steps at) states);
    }

-- the entries at these addresses, one after another
abbrev pub cause_of_entries : ℕ → List ℕ → List State → Reply
cause_of_entries d [] states = zero_reply
cause_of_entries d (at ∷ ats) states =
    cause_of_entry d (entry_looked d at states)
    (cause_of_entries d ats (drop (question_steps at + length (pieces (at + 8) 12)) states))

-- an absent head; a pad of it; too many entries; and then the entries
abbrev pub cause_of_head : Call → Option (List ℕ) → List State → Reply
cause_of_head c head states =
    row (is_none head) efault (
    row (not (u32_at (unwrap_or head []) 4 == 0)) Inval (
    row (nat_lt most_entries (u32_at (unwrap_or head []) 0)) Acces (
    cause_of_entries c.caller (entries_at c.a1 (u32_at (unwrap_or head []) 0)) (drop (length (pieces c.a1 8)) states))))

-- where A1 is 0 there are no entries
abbrev pub cause_of_questions : Call → List State → Reply
cause_of_questions c states =
    if c.a1 == 0 then zero_reply else cause_of_head c (found c.caller (pieces c.a1 8) states) states

-- the caller was off at a sweep; and then the questions
abbrev pub cause_after_sweeps : Call → Option (List State) → Reply
cause_after_sweeps c None = says NoDev
cause_after_sweeps c (Some states) = cause_of_questions c states

-- an argument that the call does not take; and then the sweeps
abbrev pub cause_of_notify : Call → List State → Reply
cause_of_notify c states =
    row (has_more c.a2 c.a3 c.a4) Inval (cause_after_sweeps c (after_sweeps c.caller most_rings 0 states))
