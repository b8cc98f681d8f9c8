-- The exit status of the program.
use Rattle.std.specs.Prelude.{ℕ}
use Rattle.argo_run.specs.declared.status.Status.{Status}
use Rattle.argo_run.specs.declared.status.Status.TheVariants.{Done, Usage, SourceFault, SinkFault, Script, Split, NoMemory}

abbrev pub status_number : Status → ℕ
status_number Done = 0
status_number Usage = 2
status_number SourceFault = 3
status_number SinkFault = 4
status_number (Script line kind) = 5
status_number (Split x closed) = 6
status_number NoMemory = 7
