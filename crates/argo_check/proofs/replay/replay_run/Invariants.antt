-- So many steps of the run were made.
use Rattle.std.proofs.Common.{◌≡◌, ◌++◌, replicate}
use Rattle.argo_check.proofs.replay.replay_run.Given as goal

abbrev pub invariant-loop : goal.invariant-loop
invariant-loop l = (l.machine.script ≡ l.fn.machine.script) × (l.machine.schedule ≡ l.fn.machine.schedule ++ replicate l.counter l.run.vcpu)
