-- Whether a report is that of its script.
use Rattle.std.specs.Prelude.{◌≡◌, ℕ, ◌⊎◌, List}
use Rattle.argo_model.specs.declared.closing.Run.{Run}
use Rattle.argo_model.specs.Runs.Script.{Script}
use Rattle.argo_model.specs.Runs.Run.{IsComplete}
use Rattle.argo_model.specs.Runs.Final.{final_of, schedule_of}
use Rattle.argo_model.specs.Runs.Report.{report_of}
use Rattle.report_read.specs.Schedule.{HasOpening, Names}
use Rattle.argo_check.specs.Differences.{DifferFirstIn}

-- the first two lines are those of a report of the script whose schedule is these runs, and that schedule is complete
pub record HasSchedule (s : Script) (report : List ℕ) (runs : List Run) : Type 0 where
  pub names : Names s.version runs report
  pub complete : IsComplete s (schedule_of runs)

-- the report of the script under the schedule of these runs
abbrev pub due_report : Script → List Run → List ℕ
due_report s runs = report_of (final_of s (schedule_of runs))

-- the report is right: its bytes are those of the report of the script under its schedule, which is complete
pub record IsRight (s : Script) (report : List ℕ) (runs : List Run) : Type 0 where
  pub schedule : HasSchedule s report runs
  pub is : report ≡ due_report s runs

-- the first line of the report is not that of a report of the script
abbrev pub IsWrongInOpening : Script → List ℕ → Type 0
IsWrongInOpening s report = ¬ HasOpening s.version report

-- the first line is, and the second is not the schedule of a complete run
abbrev pub IsWrongInSchedule : Script → List ℕ → Type 0
IsWrongInSchedule s report = HasOpening s.version report × ((runs : List Run) → ¬ HasSchedule s report runs)

-- both are, and this is the first line that is not that of the report of the script under this schedule, where a line may be
-- missing or one too many
abbrev pub IsWrongBelow : Script → List ℕ → ℕ → Type 0
IsWrongBelow s report line = (runs : List Run) × HasSchedule s report runs × DifferFirstIn report (due_report s runs) line

-- the report is wrong, and this is its first wrong line
abbrev pub IsWrongAt : Script → List ℕ → ℕ → Type 0
IsWrongAt s report line =
    ((line ≡ 1) × IsWrongInOpening s report) ⊎ (((line ≡ 2) × IsWrongInSchedule s report) ⊎ IsWrongBelow s report line)
