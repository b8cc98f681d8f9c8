use Rattle.std.proofs.Common.{ℕ, sym, ap, subst}
use Rattle.report_read.specs.Schedule.{IsRefusal}
use Rattle.argo_check.specs.Judged.{OnlyNames}
use Rattle.argo_check.specs.Verdicts.{IsWrongAt}
use Rattle.argo_check.proofs.VerdictLaws.{refused, only_names}
use Rattle.argo_check.proofs.verdict.judge.Goals as goal

pub judge_by-requires : goal.judge_by-requires
judge_by-requires c =
    let P : ℕ → Type 0 = λ n. OnlyNames n c.args.report.now c.in-Ok.runs in
    subst P (ap (λ s. s.version) c.scripts.view_is)
    (only_names c.scripts.inside.version c.args.report.now c.in-Ok.runs (rw c.in-Ok.is at c.in_ok-runs.ensures.runs) (rw c.in-Ok.is at c.in_ok-runs.ensures.only))

pub returns-in-Err : goal.returns-in-Err
returns-in-Err c =
    let P : ℕ → Type 0 = λ n. IsRefusal n c.args.report.now c.in-Err.line in
    let Q : ℕ → Type 0 = λ n. IsWrongAt c.args.scripts.now c.args.report.now n in
    subst Q (sym c.from.ensures)
    (refused c.args.scripts.now c.args.report.now c.in-Err.line (subst P (ap (λ s. s.version) c.scripts.view_is) (rw c.in-Err.is at c.in_ok-runs.ensures.refused)))
