use Rattle.std.proofs.Common.{List, refl, sym, ap, subst}
use Rattle.argo_model.specs.Runs.Final.{schedule_of}
use Rattle.argo_model.specs.Runs.Run.{run}
use Rattle.vcpu_machine.specs.Vcpu.{VcpuAt}
use Rattle.argo_machine.specs.Kept.{AllStand}
use Rattle.argo_machine.specs.Machine.{script_of}
use Rattle.argo_machine.proofs.StandLaws.{finished_iff, none_open}
use Rattle.argo_machine.proofs.machine.Machine.finished.Goals as goal

pub returns-in-Some : goal.returns-in-Some
returns-in-Some g c =
    let m = c.self.inside in
    let sections = (run (script_of m.version m.domains m.kept.vcpus) (schedule_of m.kept.runs)).sections in
    let P : List VcpuAt → Type 0 = λ xs. AllStand xs sections in
    let stand = subst P (sym (ap (λ k. k.vcpus) c.kept.view_is)) c.self.invariant.stand in
    let look = rw c.deref.ensures.value at c.in-Some.ensures.lookup in
    rw (← c.self.view_is) (finished_iff c.kept.inside.vcpus.items _ c.args.v c.in-Some.vcpu.now c.finished.result stand look.3.0 look.1 c.finished.ensures.lines)

pub returns-in-None : goal.returns-in-None
returns-in-None g c =
    let m = c.self.inside in
    let sections = (run (script_of m.version m.domains m.kept.vcpus) (schedule_of m.kept.runs)).sections in
    let P : List VcpuAt → Type 0 = λ xs. AllStand xs sections in
    let stand = subst P (sym (ap (λ k. k.vcpus) c.kept.view_is)) c.self.invariant.stand in
    let look = rw c.deref.ensures.value at c.in-None.ensures.lookup in
    rw (← c.self.view_is) (λ e. none_open c.kept.inside.vcpus.items _ c.args.v stand look.3, λ e. refl)
