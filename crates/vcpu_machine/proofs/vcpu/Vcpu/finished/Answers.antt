use Rattle.vcpu_machine.specs.Vcpu.{VcpuAt}
use Rattle.vcpu_machine.proofs.VcpuLaws.{none_to_come, more_to_come}
use Rattle.vcpu_machine.proofs.vcpu.Vcpu.finished.Goals as goal

pub returns-clause-left : goal.returns-clause-left
returns-clause-left c =
    let v : VcpuAt = record { part = c.self.inside.part; done = c.self.inside.done; phase = c.self.inside.phase; ready = c.self.inside.ready } in
    rw (← c.self.view_is) (λ past. none_to_come v c.self.invariant (c.is_past.ensures.0 past), λ none. c.is_past.ensures.1 (more_to_come v c.self.invariant none))
