use Rattle.std.proofs.Common.{◌≤◌, [], ◌∷◌, ◌++◌, sum_by, sym, ◌∙◌, subst}
use Rattle.argo_model.specs.Runs.Script.{Section}
use Rattle.argo_model.specs.Runs.Run.{at_first_line}
use Rattle.vcpu_machine.specs.Steps.{most_steps}
use Rattle.vcpu_machine.specs.Vcpu.{StandsAt, left_of}
use Rattle.argo_machine.specs.Vcpus.{AreVcpusOf}
use Rattle.argo_machine.proofs.VcpuLaws.{one_more}
use Rattle.argo_machine.proofs.vcpus.vcpus_of.Goals as goal

pub loop-part-preserved : goal.loop-part-preserved
loop-part-preserved c =
    let xs = c.loop-part.vcpus.items in
    let x = c.taking.result in
    let e = c.taking.ensures in
    let P : Section → Type 0 = λ s. StandsAt x (at_first_line s) in
    let Q : Section → Type 0 = λ s. left_of x ≤ sum_by most_steps s.lines in
    let R : Section → Type 0 = λ s. AreVcpusOf (xs ++ x ∷ []) (c.loop-part.yielded ++ s ∷ []) in (
      rw c.push_reserved.ensures.items (subst R e.part_is (one_more xs c.loop-part.yielded x c.loop-part.invariant.0 (subst P (sym e.part_is) e.stands) (subst Q (sym e.part_is) e.left))),
      c.push_reserved.ensures.capacity ∙ c.loop-part.invariant.1,
    )
