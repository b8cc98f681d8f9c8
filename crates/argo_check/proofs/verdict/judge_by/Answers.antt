use Rattle.std.proofs.Common.{List, subst}
use Rattle.argo_model.specs.declared.closing.Run.{Run}
use Rattle.argo_model.specs.Runs.Run.{IsComplete}
use Rattle.argo_model.specs.Runs.Final.{schedule_of}
use Rattle.argo_check.proofs.VerdictLaws.{incomplete}
use Rattle.argo_check.proofs.verdict.judge_by.Goals as goal

pub returns-in_default : goal.returns-in_default
returns-in_default c =
    let P : List Run → Type 0 = λ rs. ¬ IsComplete c.args.scripts.now (schedule_of rs) in
    incomplete c.args.scripts.now c.args.report.now c.args.runs c.requires (subst P c.as_slice.ensures (rw c.in_default.is at c.in_ok-machine.ensures))
