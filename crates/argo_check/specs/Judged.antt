-- The verdict on a report.
use Rattle.std.specs.Prelude.{◌≡◌, ℕ, List}
use Rattle.argo_model.specs.declared.closing.Run.{Run}
use Rattle.argo_model.specs.Runs.Script.{Script}
use Rattle.report_read.specs.Schedule.{Names}
use Rattle.argo_check.specs.declared.verdict.Verdict.{Verdict}
use Rattle.argo_check.specs.declared.verdict.Verdict.TheVariants.{Right, Wrong}
use Rattle.argo_check.specs.Verdicts.{IsRight, IsWrongAt}

abbrev pub IsVerdict : Script → List ℕ → Verdict → Type 0
IsVerdict s report (Right runs) = IsRight s report runs
IsVerdict s report (Wrong line) = IsWrongAt s report line

-- the first two lines are those of a report whose schedule is these runs, and no others
pub record OnlyNames (version : ℕ) (report : List ℕ) (runs : List Run) : Type 0 where
  pub names : Names version runs report
  pub only : (others : List Run) → Names version others report → others ≡ runs
