-- Laws of the texts that are due for a script.
use Rattle.std.proofs.Common.{inl, inr, ℕ, ◌≤◌, List, length, refl, ap, slice_set}
use Rattle.std.specs.List.{All}
use Rattle.std.proofs.lemmas.List.Elements.{All-set}
use Rattle.argo_board.specs.declared.entry.Entry.{Entry}
use Rattle.argo_model.specs.declared.closing.Final.{Final}
use Rattle.argo_model.specs.Runs.Report.{report_of}
use Rattle.argo_model.specs.Runs.Script.{Script}
use Rattle.shared_world.specs.declared.closed.Closed.{Closed}
use Rattle.shared_world.specs.Whole.{IsWhole}
use Rattle.audit.specs.declared.audited.Audited.TheVariants as a
use Rattle.audit.specs.declared.audited.Audited.{Audited}
use Rattle.audit.specs.Audit.{IsAuditOf}
use Rattle.audit.specs.Entries.{schedule_in}
use Rattle.audit.specs.Steps.{HasOutcome}
use Rattle.argo_run.specs.declared.status.Status.{Status}
use Rattle.argo_run.specs.declared.status.Status.TheVariants as s
use Rattle.argo_run.specs.declared.words.Way.{Way}
use Rattle.argo_run.specs.declared.words.Way.TheVariants as w
use Rattle.argo_run.specs.Due.{IsScheduleOf, IsDueForScript}
use Rattle.argo_run.specs.Outside.{Writing}
use Rattle.argo_run.specs.Serve.{Wrote, IsShownBy, RanScript, ToldAudit}
use Rattle.argo_run.specs.Splits.{split_text}

-- the report of a run is due
pub reported : (way : Way) (script : Script) (shown : Final) (out : Writing) (status : Status) → IsShownBy (IsScheduleOf way) script shown
    → Wrote s.Done (report_of shown) out status → RanScript way script out status
reported way script shown out status ran wrote =
    inr (s.Done, report_of shown, record { schedule = ran.0; picks = ran.1; is = ap report_of ran.2 }, wrote)

-- each entry of a world that is whole has the tag of an outcome
pub outcomes : (script : Script) (closed : Closed) → IsWhole script closed → All HasOutcome closed.entries
outcomes script closed whole = λ k d inside. (whole.entries k d inside).1.0

-- also where one entry is changed
pub outcomes_after : (entries : List Entry) (k : ℕ) (e : Entry) → All HasOutcome entries → HasOutcome e → All HasOutcome (slice_set entries k e)
outcomes_after entries k e all one = All-set HasOutcome entries k e one all

-- what an audit came to is due
pub told_audit : (script : Script) (closed : Closed) (audited : Audited) (out : Writing) (status : Status) → 2 ≤ length script.sections → IsWhole script closed
    → IsAuditOf script closed audited → ToldAudit audited closed out status → RanScript w.Threads script out status
told_audit script closed (a.Agreed shown) out status two whole is told = reported w.Threads script shown out status (schedule_in closed.entries, is.1, is.2) told
told_audit script closed (a.Split x) out status two whole is told =
    inr (s.Split x closed, split_text x, (record { two = two; whole = whole; first = is }, refl), told)

picked_due : (seed : ℕ) (script : Script) (due : Status) (text : List ℕ) → IsDueForScript (w.Serial seed) script due text → IsDueForScript w.Threads script due text
picked_due seed script s.Done text report = record { schedule = report.schedule; picks = report.picks.complete; is = report.is }
picked_due seed script s.Usage text is = absurd is
picked_due seed script s.SourceFault text is = absurd is
picked_due seed script s.SinkFault text is = absurd is
picked_due seed script (s.Script line kind) text is = absurd is
picked_due seed script (s.Split x closed) text is = absurd is.0
picked_due seed script s.NoMemory text is = absurd is

-- a run by picks is a run under a complete schedule
pub picked : (seed : ℕ) (script : Script) (out : Writing) (status : Status) → RanScript (w.Serial seed) script out status → RanScript w.Threads script out status
picked seed script out status (inl none) = inl none
picked seed script out status (inr (due, text, is_due, wrote)) = inr (due, text, picked_due seed script due text is_due, wrote)
