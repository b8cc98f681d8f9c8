use Rattle.std.proofs.Common.{ap, ◌∙◌, sym, subst, slice_get, IsTrue}
use Rattle.argo_model.specs.Programs.Program.{program}
use Rattle.argo_model.specs.Runs.Script.{Section}
use Rattle.vcpu_machine.specs.Line.{is_line_for}
use Rattle.vcpu_machine.proofs.LineLaws.{lawful_line}
use Rattle.vcpu_machine.proofs.VcpuLaws.{begins_by}
use Rattle.vcpu_machine.proofs.vcpu.phase_at.Goals as goal

pub start-requires : goal.start-requires
start-requires c = lawful_line c.part.inside.actor c.part.inside.lines c.args.done c.get.result.now c.get.ensures c.part.invariant

pub returns-then-place-len : goal.returns-then-place-len
returns-then-place-len c =
    begins_by c.args.part.now.actor c.args.part.now.lines c.args.done c.get.result.now c.start.result
    (ap (λ x. slice_get x.lines c.args.done) (sym c.part.view_is) ∙ c.get.ensures)
    (subst (λ (x : Section). IsTrue (is_line_for x.actor c.get.result.now)) c.part.view_is
    (lawful_line c.part.inside.actor c.part.inside.lines c.args.done c.get.result.now c.get.ensures c.part.invariant))
    c.start.ensures.at_phase
    (λ os. ap (λ x. program x.actor c.get.result.now os) (sym c.part.view_is) ∙ c.start.ensures.starts os) c.start.ensures.few
