-- The first difference between a run in threads and the machine.
use Rattle.std.specs.Prelude.{◌≡◌, ℕ, ◌+◌, length, map, Option, Some, None}
use Rattle.std.specs.Option.{option_or}
use Rattle.std.specs.List.{range_with_len}
use Rattle.argo_model.specs.Runs.Closed.{closed_domains, heard_all}
use Rattle.argo_model.specs.Runs.Final.{final_of, totals_of}
use Rattle.argo_model.specs.Runs.Run.{Course, run, IsComplete}
use Rattle.argo_model.specs.Runs.Script.{Script}
use Rattle.shared_world.specs.declared.closed.Closed.{Closed}
use Rattle.audit.specs.declared.audited.Audited.{Audited}
use Rattle.audit.specs.declared.audited.Audited.TheVariants.{Agreed, Split as IsSplit}
use Rattle.audit.specs.declared.split.Split.{Split}
use Rattle.audit.specs.Entries.{schedule_in, entries_differ, end_differs}
use Rattle.audit.specs.Rows.{SideAt, side, sides_differ}

-- what is compared of the threads
abbrev pub threads_side : Closed → SideAt
threads_side c = side c.heard c.domains c.totals

-- and of the machine, after its last step
abbrev pub machine_side : Course → SideAt
machine_side c = side (heard_all c) (closed_domains c.state) (map (totals_of c.steps) (range_with_len 0 (length c.sections)))

-- first each entry, then the end of the schedule, and then the closed world
abbrev pub first_difference : Script → Closed → Option Split
first_difference s c =
    let machine = run s (schedule_in c.entries) in
    let end = length c.entries + 1 in
    option_or (entries_differ s c.entries)
    (option_or (end_differs end machine) (sides_differ end (threads_side c) (machine_side machine)))

-- they agree, the schedule of the entries is complete, and this is what a report shows of the machine's run under it; or this is the
-- first difference
abbrev pub IsAuditOf : Script → Closed → Audited → Type 0
IsAuditOf s c (Agreed shown) =
    (first_difference s c ≡ None) × IsComplete s (schedule_in c.entries) × (shown ≡ final_of s (schedule_in c.entries))
IsAuditOf s c (IsSplit x) = first_difference s c ≡ Some x
