use Rattle.vcpu_machine.specs.Vcpu.{left_of}
use Rattle.thread_run.specs.Worker.{SameSection}
use Rattle.thread_run.proofs.worker.Worker.work.Given as goal

abbrev pub invariant-steps : goal.invariant-steps
invariant-steps g l = SameSection l.initial.self l.self

abbrev pub decreases-steps : goal.decreases-steps
decreases-steps g l = left_of l.self.vcpu
