-- The sections so far are finished.
use Rattle.std.proofs.Common.{◌≡◌, ◌<◌, ℕ, false}
use Rattle.argo_model.specs.Runs.Run.{run, is_open}
use Rattle.argo_check.proofs.replay.all_finished.Given as goal

abbrev pub invariant-loop-v : goal.invariant-loop-v
invariant-loop-v l = (w : ℕ) → w < l.v → is_open (run l.machine.script l.machine.schedule) w ≡ false
