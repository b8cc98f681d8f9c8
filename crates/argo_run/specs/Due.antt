-- The text that is due: for the bytes of a script that is run, and for the number of generated scripts.
use Rattle.std.specs.Prelude.{◌≡◌, ℕ, List, ◌++◌, codes, decimal, Result, Ok, Err}
use Rattle.argo_model.specs.Runs.Script.{Script}
use Rattle.argo_model.specs.Runs.Run.{IsComplete}
use Rattle.argo_model.specs.Runs.Final.{final_of}
use Rattle.argo_model.specs.Runs.Report.{report_of, summary_of}
use Rattle.script_text.specs.declared.kind.ScriptFault.{ScriptFault}
use Rattle.script_text.specs.Kind.{kind_text}
use Rattle.serial_run.specs.Picks.{ArePicks}
use Rattle.gen_script.specs.Made.{made}
use Rattle.shared_world.specs.declared.closed.Closed.{Closed}
use Rattle.audit.specs.declared.split.Split.{Split}
use Rattle.argo_run.specs.declared.status.Status.{Status}
use Rattle.argo_run.specs.declared.status.Status.TheVariants as st
use Rattle.argo_run.specs.declared.words.Way.{Way}
use Rattle.argo_run.specs.declared.words.Way.TheVariants.{Serial, Threads}
use Rattle.argo_run.specs.Splits.{IsSplit, split_text}

abbrev pub usage_text : List ℕ
usage_text = codes "usage: argo_run threads | serial N | gen N\n"

-- the line of a fault
abbrev pub fault_text : ScriptFault → List ℕ
fault_text f = codes "script line " ++ decimal f.line ++ codes ": " ++ kind_text f.kind ++ codes "\n"

-- the schedule of a run of the script: the picks of the seed, or in threads any complete schedule
abbrev pub IsScheduleOf : Way → Script → List ℕ → Type 0
IsScheduleOf (Serial seed) s schedule = ArePicks s seed schedule
IsScheduleOf Threads s schedule = IsComplete s schedule

-- the report of the script under such a schedule, which the report names
pub record IsReport (way : Way) (s : Script) (text : List ℕ) : Type 0 where
  pub schedule : List ℕ
  pub picks : IsScheduleOf way s schedule
  pub is : text ≡ report_of (final_of s schedule)

-- in threads alone a run may differ from the machine's
abbrev pub MaySplit : Way → Script → Split → Closed → Type 0
MaySplit (Serial seed) s x closed = ⊥
MaySplit Threads s x closed = IsSplit s x closed

-- the status and the text that are due for a script: its report, or the line of a split
abbrev pub IsDueForScript : Way → Script → Status → List ℕ → Type 0
IsDueForScript way s st.Done text = IsReport way s text
IsDueForScript way s (st.Split x closed) text = MaySplit way s x closed × (text ≡ split_text x)
IsDueForScript way s _ text = ⊥

-- the status and the text that are due for what the bytes are: those of a script, or the line of a fault
abbrev pub IsDueFor : Way → Result Script ScriptFault → Status → List ℕ → Type 0
IsDueFor way (Ok s) status text = IsDueForScript way s status text
IsDueFor way (Err f) (st.Script line kind) text = (f ≡ record { line = line; kind = kind }) × (text ≡ fault_text f)
IsDueFor way (Err f) _ text = ⊥

-- the summary of the scripts of this number under the picks of the same number
abbrev pub IsSummary : ℕ → List ℕ → Type 0
IsSummary n text = (schedule : List ℕ) × ArePicks (made n) n schedule × (text ≡ summary_of (final_of (made n) schedule))
