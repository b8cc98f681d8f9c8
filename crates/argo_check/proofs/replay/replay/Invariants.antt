-- The runs so far were replayed.
use Rattle.std.proofs.Common.{◌≡◌, take}
use Rattle.argo_model.specs.Runs.Final.{schedule_of}
use Rattle.argo_check.proofs.replay.replay.Given as goal

abbrev pub invariant-loop-run : goal.invariant-loop-run
invariant-loop-run l = (l.machine.script ≡ l.fn.scripts) × (l.machine.schedule ≡ schedule_of (take l.run-index l.runs))
