-- The runs so far were walked through.
use Rattle.std.proofs.Common.{◌≡◌, take}
use Rattle.argo_model.specs.Runs.Final.{schedule_of}
use Rattle.argo_check.specs.Walks.{IsWalk}
use Rattle.argo_check.proofs.why.walk_through.Given as goal

abbrev pub invariant-loop-run : goal.invariant-loop-run
invariant-loop-run l =
    (l.walk.machine.script ≡ l.fn.scripts) × (l.walk.machine.schedule ≡ schedule_of (take l.run-index l.runs)) × IsWalk l.place l.walk.machine l.walk.steps l.walk.text
