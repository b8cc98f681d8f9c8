-- What the errors of this crate say to a user.
use Rattle.std.specs.Prelude.{ℕ, List}
use Rattle.argo_base.specs.Messages.{no_memory_text}
use Rattle.argo_outside.specs.Messages.{failed_text}
use Rattle.report_text.specs.declared.fault.WriteFault.{WriteFault}
use Rattle.report_text.specs.declared.fault.WriteFault.TheVariants.{Sink, NoMemory}

abbrev pub write_fault_text : WriteFault → List ℕ
write_fault_text Sink = failed_text
write_fault_text NoMemory = no_memory_text
