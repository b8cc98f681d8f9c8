-- What the errors of this crate say to a user.
use Rattle.std.specs.Prelude.{ℕ, List, codes}
use Rattle.argo_base.specs.Messages.{no_memory_text}
use Rattle.argo_outside.specs.declared.taken.TakeFault.{TakeFault}
use Rattle.argo_outside.specs.declared.taken.TakeFault.TheVariants.{Failed, NoMemory}

abbrev pub failed_text : List ℕ
failed_text = codes "a read or a write failed"

abbrev pub take_fault_text : TakeFault → List ℕ
take_fault_text Failed = failed_text
take_fault_text NoMemory = no_memory_text
