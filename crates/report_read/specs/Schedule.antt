-- The schedule that the first two lines of a report name.
use Rattle.std.specs.Prelude.{◌≡◌, ◌≢◌, ℕ, ◌^◌, ◌<◌, ◌≤◌, ◌⊎◌, List, [], ◌∷◌, ◌++◌, Option, Some, None}
use Rattle.argo_model.specs.declared.closing.Run.{Run}
use Rattle.argo_model.specs.Runs.Report.{opening_line, schedule_line}

-- some steps of one section: both numbers are those of a program
pub record IsRun (r : Run) : Type 0 where
  pub vcpu_fits : r.vcpu < 2 ^ 32
  pub some_steps : 1 ≤ r.count
  pub count_fits : r.count < 2 ^ 64

-- the section is another than the one before, if there was one
abbrev pub IsOther : Option ℕ → ℕ → Type 0
IsOther None v = Unit {0}
IsOther (Some before) v = before ≢ v

-- longest runs: each is of another section than the one before it
abbrev pub IsScheduleBehind : Option ℕ → List Run → Type 0
IsScheduleBehind before [] = Unit {0}
IsScheduleBehind before (r ∷ rs) = IsRun r × IsOther before r.vcpu × IsScheduleBehind (Some r.vcpu) rs

abbrev pub IsSchedule : List Run → Type 0
IsSchedule rs = IsScheduleBehind None rs

-- the report begins with the first line of its format
abbrev pub HasOpening : ℕ → List ℕ → Type 0
HasOpening version report = (rest : List ℕ) × (report ≡ opening_line version ++ rest)

-- the first two lines are those of a report whose schedule is these runs
pub record Names (version : ℕ) (runs : List Run) (report : List ℕ) : Type 0 where
  pub lawful : IsSchedule runs
  pub rest : List ℕ
  pub report_is : report ≡ opening_line version ++ (schedule_line runs ++ rest)

-- why there are no runs: the first line is another, or it is not and the second line names no schedule
abbrev pub IsRefusal : ℕ → List ℕ → ℕ → Type 0
IsRefusal version report line =
    ((line ≡ 1) × ¬ HasOpening version report)
    ⊎ ((line ≡ 2) × HasOpening version report × ((runs : List Run) → ¬ Names version runs report))
