-- So many steps of the run were made.
use Rattle.std.proofs.Common.{◌≡◌, ◌++◌, replicate}
use Rattle.argo_check.specs.Walks.{IsWalk}
use Rattle.argo_check.proofs.why.Walk.make_run.Given as goal

abbrev pub invariant-loop : goal.invariant-loop
invariant-loop l =
    (l.self.machine.script ≡ l.fn.self.machine.script) × (l.self.machine.schedule ≡ l.fn.self.machine.schedule ++ replicate l.counter l.run.vcpu)
    × IsWalk l.place l.self.machine l.self.steps l.self.text
