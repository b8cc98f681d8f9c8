use Rattle.vcpu_machine.proofs.VcpuLaws.{begun_is, begun_so}
use Rattle.vcpu_machine.proofs.vcpu.Vcpu.taking.Goals as goal

pub invariant_of-result : goal.invariant_of-result
invariant_of-result c = begun_is c.args.part c.phase_at-phase.result c.phase_at-phase.ensures c.requires.lines

pub returns : goal.returns
returns c = begun_so c.args.part c.phase_at-phase.result c.phase_at-phase.ensures c.requires.lines c.requires.turns
