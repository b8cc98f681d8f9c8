use Rattle.std.proofs.Common.{◌≡◌, take, length}
use Rattle.thread_run.specs.Workers.{AreWorkersOf}
use Rattle.thread_run.proofs.workers.workers_of.Given as goal

-- as many workers as passes were taken, each the section's of its number
abbrev pub invariant-loop-pass : goal.invariant-loop-pass
invariant-loop-pass g l = (length l.workers.items ≡ length l.yielded) × AreWorkersOf l.workers.items (take (length l.yielded) l.parts)
