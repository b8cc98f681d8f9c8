use Rattle.std.proofs.Common.{◌≡◌, map}
use Rattle.thread_run.proofs.tests.by_schedule.steps_differ.Given as goal

-- each worker has its number
abbrev pub invariant-steps : goal.invariant-steps
invariant-steps g l = map (λ w. w.number) l.workers.items ≡ map (λ w. w.number) l.initial.workers.items
