-- The sections so far are finished.
use Rattle.std.proofs.Common.{◌≡◌, None}
use Rattle.argo_model.specs.Runs.Run.{run}
use Rattle.audit.specs.Entries.{open_at}
use Rattle.audit.specs.First.{first_below}
use Rattle.audit.proofs.entries.first_open.Given as goal

abbrev pub invariant-loop-v : goal.invariant-loop-v
invariant-loop-v l = first_below (open_at (run l.machine.script l.machine.schedule)) l.v ≡ None
