use Rattle.argo_check.proofs.CutLaws.{no_mark_here}
use Rattle.argo_check.proofs.cut.cut_at.Goals as goal

pub returns-in_err-after : goal.returns-in_err-after
returns-in_err-after c =
    rw c.from_residual.ensures (no_mark_here c.args.text.now c.split_at.result.1.now c.args.at c.split_at.ensures.back c.in_err-after.ensures)
