-- How the entries of a journal differ from the machine's steps under their schedule.
use Rattle.std.specs.Prelude.{ℕ, ◌+◌, Bool, ◌&&◌, ◌==◌, if◌then◌else◌, List, length, map, take, slice_get, Option, Some, None}
use Rattle.std.specs.Option.{option_map}
use Rattle.argo_model.specs.declared.short.Short.{Short}
use Rattle.argo_model.specs.Rules.Shorts.{short_of, no_step}
use Rattle.argo_model.specs.Runs.Run.{Course, Turn, run, next_turn, is_open}
use Rattle.argo_model.specs.Runs.Script.{Script}
use Rattle.argo_board.specs.declared.entry.Entry.{Entry}
use Rattle.audit.specs.declared.split.Split.{Split}
use Rattle.audit.specs.First.{first_below}
use Rattle.audit.specs.Rows.{split}

-- the schedule of a journal: whose step each entry is
abbrev pub schedule_in : List Entry → List ℕ
schedule_in entries = map (λ e. e.vcpu) entries

-- a step in short; a section that is finished makes none
abbrev pub turn_short : Option Turn → Short
turn_short None = no_step
turn_short (Some t) = short_of t.outcome

-- what the next step of a section comes to
abbrev pub next_short : Course → ℕ → Short
next_short c v = turn_short (next_turn c v)

abbrev pub is_same : Short → Short → Bool
is_same x y = (x.tag == y.tag) && (x.value == y.value)

abbrev pub shorts_differ : ℕ → Short → Short → Option Split
shorts_differ step x y = if is_same x y then None else Some (split step x y)

-- an entry, and what its section does next after the entries before it
abbrev pub entry_differs : Script → List Entry → ℕ → Option Entry → Option Split
entry_differs s entries k None = None
entry_differs s entries k (Some e) =
    shorts_differ (k + 1) e.short (next_short (run s (take k (schedule_in entries))) e.vcpu)

abbrev pub entry_at : Script → List Entry → ℕ → Option Split
entry_at s entries k = entry_differs s entries k (slice_get entries k)

-- the first entry that is not the machine's step
abbrev pub entries_differ : Script → List Entry → Option Split
entries_differ s entries = first_below (entry_at s entries) (length entries)

-- a section that is not finished
abbrev pub open_at : Course → ℕ → Option ℕ
open_at c v = if is_open c v then Some v else None

abbrev pub first_open : Course → Option ℕ
first_open c = first_below (open_at c) (length c.sections)

-- the first of them goes on where the journal has ended
abbrev pub end_differs : ℕ → Course → Option Split
end_differs step c = option_map (λ v. split step no_step (next_short c v)) (first_open c)
