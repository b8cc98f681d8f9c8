-- How a run ends: what stands with each status.
use Rattle.std.specs.Prelude.{◌≡◌, ℕ, ◌⊎◌, List, length, map, Result, Ok, Err, Option, Some, None, Vec, String, ⊤}
use Rattle.std.specs.Global.{Global}
use Rattle.std.specs.String.{string_bytes}
use Rattle.argo_outside.specs.Faults.{Rose}
use Rattle.argo_outside.specs.Source.{behind, IsAtEnd}
use Rattle.argo_model.specs.Runs.Script.{Script}
use Rattle.argo_laws.specs.Headline.{Headline}
use Rattle.script_text.specs.declared.kind.ScriptFault.{ScriptFault}
use Rattle.script_text.specs.Scripts.{scripts_of}
use Rattle.shared_world.specs.declared.closed.Closed.{Closed}
use Rattle.audit.specs.declared.split.Split.{Split}
use Rattle.argo_run.specs.declared.status.Status.{Status}
use Rattle.argo_run.specs.declared.status.Status.TheVariants as s
use Rattle.argo_run.specs.declared.words.Form.{Form}
use Rattle.argo_run.specs.declared.words.Form.TheVariants as f
use Rattle.argo_run.specs.declared.words.Way.{Way}
use Rattle.argo_run.specs.Words.{form_of}
use Rattle.argo_run.specs.Outside.{Reading, Writing, SourceRose, SinkRose, IsWritten, IsCut, IsUnwritten}
use Rattle.argo_run.specs.Splits.{split_text}
use Rattle.argo_run.specs.Due.{IsReport, IsDueFor, IsSummary, MaySplit, fault_text, usage_text}

-- the bytes that were read: all of the source, or 4,194,305 of them
pub record IsRead (old new : Option (List ℕ)) (read : List ℕ) : Type 0 where
  pub told : old ≡ behind read new
  pub all : IsAtEnd new ⊎ (length read ≡ 4194305)

-- the source was read to its end, and its bytes are this script
pub record IsReadAs (script : Script) (r : Reading) : Type 0 where
  pub read : List ℕ
  pub told : r.left ≡ behind read r.left_new
  pub at_end : IsAtEnd r.left_new
  pub is_script : scripts_of read ≡ Ok script

-- status 0: the source was read to its end, its bytes are a script, and its report was written whole; and at every point of the run
-- that it reports each clean ring holds what was accepted and not taken, each reply has its one cause, and notices and flags stand
pub record IsDone (way : Way) (r : Reading) (w : Writing) : Type 0 where
  pub script : Script
  pub is_read : IsReadAs script r
  pub text : List ℕ
  pub report : IsReport way script text
  pub headline : Headline script report.schedule
  pub whole : IsWritten w text

-- status 3: the source counted a fault, and nothing was written
pub record IsUnread (r : Reading) (w : Writing) : Type 0 where
  pub rose : SourceRose r
  pub nothing : IsUnwritten w
  pub count : w.faults_new ≡ w.faults

-- a part of the text that was due was written, and not all of it
pub record IsCutShort (way : Way) (r : Reading) (w : Writing) : Type 0 where
  pub read : List ℕ
  pub is_read : IsRead r.left r.left_new read
  pub due : Status
  pub text : List ℕ
  pub is_due : IsDueFor way (scripts_of read) due text
  pub cut : IsCut w text

-- status 5: the bytes read are no script, and the line of the fault was written whole
pub record IsNoScript (fault : ScriptFault) (r : Reading) (w : Writing) : Type 0 where
  pub read : List ℕ
  pub is_read : IsRead r.left r.left_new read
  pub no_script : scripts_of read ≡ Err fault
  pub whole : IsWritten w (fault_text fault)

-- status 6: the source was read to its end, its bytes are a script, of which this is a split, and the line of the split was written whole
pub record IsFoundSplit (way : Way) (x : Split) (closed : Closed) (r : Reading) (w : Writing) : Type 0 where
  pub script : Script
  pub is_read : IsReadAs script r
  pub split : MaySplit way script x closed
  pub whole : IsWritten w (split_text x)

-- what stands with each status of a run of the source's script. Memory may run out before a byte is written, or while the text that
-- was due is written
abbrev pub EndsBy : Way → Reading → Writing → Status → Type 0
EndsBy way r w s.Done = IsDone way r w
EndsBy way r w s.Usage = ⊥
EndsBy way r w s.SourceFault = IsUnread r w
EndsBy way r w s.SinkFault = SinkRose w × IsCutShort way r w
EndsBy way r w (s.Script line kind) = IsNoScript (record { line = line; kind = kind }) r w
EndsBy way r w (s.Split x closed) = IsFoundSplit way x closed r w
EndsBy way r w s.NoMemory = IsUnwritten w ⊎ IsCutShort way r w

-- the status agrees with what the bytes of the source are: a fault of the source or the sink and want of memory agree with all
abbrev pub Agrees : Result Script ScriptFault → Status → Type 0
Agrees given s.Done = (script : Script) × (given ≡ Ok script)
Agrees given s.Usage = ⊥
Agrees given s.SourceFault = ⊤
Agrees given s.SinkFault = ⊤
Agrees given (s.Script line kind) = given ≡ Err (record { line = line; kind = kind })
Agrees given (s.Split x closed) = (script : Script) × (given ≡ Ok script)
Agrees given s.NoMemory = ⊤

-- where the source tells its bytes, the status agrees with them
abbrev pub AgreesWith : Option (List ℕ) → Status → Type 0
AgreesWith left status = (read : List ℕ) → left ≡ Some read → Agrees (scripts_of read) status

-- the run is done, or memory ran out, or its threads differ from the machine
abbrev pub IsRun : Way → Script → Status → Type 0
IsRun way script s.Done = ⊤
IsRun way script (s.Split x closed) = MaySplit way script x closed
IsRun way script s.NoMemory = ⊤
IsRun way script _ = ⊥

-- where the source tells that its bytes are a script, and no count rose, it is run
abbrev pub IsRunWhereNothingFails : Way → Reading → Writing → Status → Type 0
IsRunWhereNothingFails way r w status =
    (read : List ℕ) (script : Script) → r.left ≡ Some read → scripts_of read ≡ Ok script → (SourceRose r → ⊥) → (SinkRose w → ⊥)
    → IsRun way script status

-- how a run of the source's script ends
pub record RunsScript (way : Way) (r : Reading) (w : Writing) (status : Status) : Type 0 where
  pub ends : EndsBy way r w status
  pub agrees : AgreesWith r.left status
  pub complete : IsRunWhereNothingFails way r w status

-- status 0 of generated scripts: their summary was written whole
pub record IsSummed (n : ℕ) (w : Writing) : Type 0 where
  pub text : List ℕ
  pub is_summary : IsSummary n text
  pub whole : IsWritten w text

-- a part of the summary was written, and not all of it
pub record IsSummaryCutShort (n : ℕ) (w : Writing) : Type 0 where
  pub text : List ℕ
  pub is_summary : IsSummary n text
  pub cut : IsCut w text

-- what stands with each status of a run of generated scripts
abbrev pub EndsSummed : ℕ → Writing → Status → Type 0
EndsSummed n w s.Done = IsSummed n w
EndsSummed n w s.SinkFault = SinkRose w × IsSummaryCutShort n w
EndsSummed n w s.NoMemory = IsUnwritten w ⊎ IsSummaryCutShort n w
EndsSummed n w _ = ⊥

-- how a run of wrong words ends: with the line of usage, or the sink counted a fault
abbrev pub TellsUsage : Writing → Status → Type 0
TellsUsage w s.Usage = IsWritten w usage_text
TellsUsage w s.SinkFault = SinkRose w × IsCut w usage_text
TellsUsage w _ = ⊥

-- the form of the words of the command line, where they have one
abbrev pub form_in : Vec (String Global) Global → Option Form
form_in words = form_of (map string_bytes words.items)

-- how the program ends for each form of its words
abbrev pub EndsFor : Option Form → Reading → Writing → Status → Type 0
EndsFor (Some (f.Run way)) r w status = RunsScript way r w status
EndsFor (Some (f.Gen n)) r w status = EndsSummed n w status
EndsFor None r w status = TellsUsage w status

-- words of this form let nothing be read
abbrev pub ReadsNothing : Option Form → Type 0
ReadsNothing (Some (f.Run way)) = ⊥
ReadsNothing (Some (f.Gen n)) = ⊤
ReadsNothing None = ⊤

-- how the program ends after its last flush: as the run did, with no fault more; or the sink counted one
abbrev pub EndsFlushed : ℕ → ℕ → Status → Status → Type 0
EndsFlushed faults faults_new status end =
    ((faults_new ≡ faults) × (end ≡ status)) ⊎ (Rose faults faults_new × (end ≡ s.SinkFault))
