-- What the parts of a run promise.
use Rattle.std.specs.Prelude.{◌≡◌, ℕ, ◌⊎◌, List, Err, ⊤}
use Rattle.argo_model.specs.declared.closing.Final.{Final}
use Rattle.argo_model.specs.Runs.Script.{Script}
use Rattle.argo_model.specs.Runs.Final.{final_of}
use Rattle.argo_model.specs.Runs.Report.{report_of}
use Rattle.script_text.specs.declared.kind.ScriptFault.{ScriptFault}
use Rattle.script_text.specs.Scripts.{scripts_of}
use Rattle.shared_world.specs.declared.closed.Closed.{Closed}
use Rattle.audit.specs.declared.audited.Audited.{Audited}
use Rattle.audit.specs.declared.audited.Audited.TheVariants as a
use Rattle.argo_run.specs.declared.input.Unread.{Unread}
use Rattle.argo_run.specs.declared.input.Unread.TheVariants as u
use Rattle.argo_run.specs.declared.status.Status.{Status}
use Rattle.argo_run.specs.declared.status.Status.TheVariants as s
use Rattle.argo_run.specs.declared.words.Way.{Way}
use Rattle.argo_run.specs.Outside.{Reading, Writing, SourceRose, SinkRose, IsWritten, IsCut, IsUnwritten}
use Rattle.argo_run.specs.Splits.{split_text}
use Rattle.argo_run.specs.Due.{IsDueForScript, fault_text}
use Rattle.argo_run.specs.Ends.{IsRead}

-- the bytes that were read are no script
pub record HasFault (f : ScriptFault) (r : Reading) : Type 0 where
  pub read : List ℕ
  pub is_read : IsRead r.left r.left_new read
  pub no_script : scripts_of read ≡ Err f

-- why there is no script
abbrev pub IsCauseOf : Unread → Reading → Type 0
IsCauseOf u.Source r = SourceRose r
IsCauseOf (u.Fault f) r = HasFault f r
IsCauseOf u.NoMemory r = ⊤

-- how the writing of a text ends, after which this status is due
abbrev pub Wrote : Status → List ℕ → Writing → Status → Type 0
Wrote due text w s.SinkFault = SinkRose w × IsCut w text
Wrote due text w s.NoMemory = IsUnwritten w ⊎ IsCut w text
Wrote due text w status = (due ≡ status) × IsWritten w text

-- how the writing of what an audit of this world came to ends
abbrev pub ToldAudit : Audited → Closed → Writing → Status → Type 0
ToldAudit (a.Agreed shown) closed w status = Wrote s.Done (report_of shown) w status
ToldAudit (a.Split x) closed w status = Wrote (s.Split x closed) (split_text x) w status

-- nothing was written, and the sink counted no fault
pub record IsStill (w : Writing) : Type 0 where
  pub nothing : IsUnwritten w
  pub count : w.faults_new ≡ w.faults

-- how it ends where there is no script
abbrev pub Refused : Unread → Writing → Status → Type 0
Refused u.Source w status = (status ≡ s.SourceFault) × IsStill w
Refused (u.Fault f) w status = Wrote (s.Script f.line f.kind) (fault_text f) w status
Refused u.NoMemory w status = (status ≡ s.NoMemory) × IsStill w

-- what is shown of a run of the script
abbrev pub IsShownBy : (Script → List ℕ → Type 0) → Script → Final → Type 0
IsShownBy IsBy script shown = (schedule : List ℕ) × IsBy script schedule × (shown ≡ final_of script schedule)

-- how a run of a script ends: with what is due for it, or memory ran out before
abbrev pub RanScript : Way → Script → Writing → Status → Type 0
RanScript way script w status =
    ((status ≡ s.NoMemory) × IsUnwritten w) ⊎ ((due : Status) × (text : List ℕ) × IsDueForScript way script due text × Wrote due text w status)
