use Rattle.std.proofs.Common.{List, Some, sym, ap, ◌∙◌, subst}
use Rattle.argo_model.specs.Runs.Final.{schedule_of}
use Rattle.argo_model.specs.Runs.Run.{run}
use Rattle.vcpu_machine.specs.Vcpu.{VcpuAt}
use Rattle.argo_machine.specs.Kept.{AllStand}
use Rattle.argo_machine.specs.Machine.{script_of}
use Rattle.argo_machine.proofs.StandLaws.{done_in, done_past}
use Rattle.argo_machine.proofs.machine.Machine.done_lines.Goals as goal

pub returns-in_err-vcpu : goal.returns-in_err-vcpu
returns-in_err-vcpu g c =
    let m = c.self.inside in
    let sections = (run (script_of m.version m.domains m.kept.vcpus) (schedule_of m.kept.runs)).sections in
    let P : List VcpuAt → Type 0 = λ xs. AllStand xs sections in
    let stand = subst P (sym (ap (λ k. k.vcpus) c.kept.view_is)) c.self.invariant.stand in
    let look = rw c.deref.ensures.value at c.in_err-vcpu.ensures.lookup in
    rw (← c.self.view_is) (c.from_residual.ensures ∙ done_past c.kept.inside.vcpus.items _ c.args.v stand look.3)

pub returns : goal.returns
returns g c =
    let m = c.self.inside in
    let sections = (run (script_of m.version m.domains m.kept.vcpus) (schedule_of m.kept.runs)).sections in
    let P : List VcpuAt → Type 0 = λ xs. AllStand xs sections in
    let stand = subst P (sym (ap (λ k. k.vcpus) c.kept.view_is)) c.self.invariant.stand in
    let look = rw c.deref.ensures.value at c.in_ok-vcpu.ensures.lookup in
    rw (← c.self.view_is)
    (ap (λ n. Some n) c.done_lines.ensures.is ∙ done_in c.kept.inside.vcpus.items _ c.args.v c.in_ok-vcpu.vcpu.now stand look.3.0 look.1)
