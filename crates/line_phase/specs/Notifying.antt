-- What follows the fetches of notify.
use Rattle.std.specs.Prelude.{ℕ, ◌+◌, ◌*◌, List}
use Rattle.line_phase.specs.declared.reads.Entry.{Entry}
use Rattle.line_phase.specs.declared.reads.NotifyRead.{NotifyRead}
use Rattle.line_phase.specs.declared.reads.NotifyRead.TheVariants.{Head, Entry as EntryRead}
use Rattle.argo_model.specs.declared.action.Outcome.{Outcome}
use Rattle.argo_model.specs.Programs.Asks.{Rests}
use Rattle.argo_model.specs.Programs.Notify.{notify_head, notify_entries, answer_entry, answer_entries, if_answered, if_swept, sweep_rings}
use Rattle.line_phase.specs.Entries.{entry_at, places_after, IsEntry}

-- the entry asks for room, and what follows it
abbrev pub ask_entry : Entry → List ℕ → Rests
ask_entry e entry = answer_entry (entry_at e) entry (answer_entries (places_after e))

-- what follows its answer
abbrev pub entry_answered : Entry → Outcome → Rests
entry_answered e = if_answered (entry_at e) (answer_entries (places_after e))

-- so many sweeps, and what follows them
abbrev pub sweeps : ℕ → ℕ → ℕ → Rests
sweeps base count after = sweep_rings count after (notify_entries base)

-- what follows a sweep before so many
abbrev pub swept_on : ℕ → ℕ → Outcome → Rests
swept_on base later = if_swept (λ serial. sweep_rings later serial (notify_entries base)) (notify_entries base)

-- what follows the bytes
abbrev pub after_notify_read : NotifyRead → List ℕ → Rests
after_notify_read (Head base) head os = notify_head base head os
after_notify_read (EntryRead e) entry os = ask_entry e entry os

-- how many bytes there are
abbrev pub notify_size : NotifyRead → ℕ
notify_size (Head base) = 8
notify_size (EntryRead e) = 20

-- an entry is one of at most 256
abbrev pub IsNotifyRead : NotifyRead → Type 0
IsNotifyRead (Head base) = Unit {0}
IsNotifyRead (EntryRead e) = IsEntry e

-- how many actions follow the bytes at most: an entry is asked for, and its answer has at most two pieces
abbrev pub most_after_notify : NotifyRead → ℕ
most_after_notify (Head base) = 1280
most_after_notify (EntryRead e) = 5 * e.later + 3
