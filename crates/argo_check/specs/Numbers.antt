-- The exit status of the program.
use Rattle.std.specs.Prelude.{ℕ}
use Rattle.argo_check.specs.declared.status.CheckStatus.{CheckStatus}
use Rattle.argo_check.specs.declared.status.CheckStatus.TheVariants.{Yes, No, Usage, SourceFault, SinkFault, Script, NoMemory, Mark, Large}

abbrev pub status_number : CheckStatus → ℕ
status_number Yes = 0
status_number (No line) = 1
status_number Usage = 2
status_number SourceFault = 3
status_number SinkFault = 4
status_number (Script line kind) = 5
status_number NoMemory = 7
status_number Mark = 9
status_number Large = 10
