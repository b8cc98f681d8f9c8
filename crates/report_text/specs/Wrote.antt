-- What a call that writes a text leaves in its sink.
use Rattle.std.specs.Prelude.{◌≡◌, ℕ, ◌≤◌, List, Option, Result, OnOk, OnErr, IsErrOf}
use Rattle.argo_outside.specs.Faults.{Rose}
use Rattle.argo_outside.specs.Sink.{appended, CutShort}
use Rattle.report_text.specs.declared.fault.WriteFault.{WriteFault}
use Rattle.report_text.specs.declared.fault.WriteFault.TheVariants.{Sink}

-- the whole text was appended, or after a fault a part of it from its start; the sink has counted its own fault
pub record Wrote {K : Type 0} (written : K → Option (List ℕ)) (faults : K → ℕ) (old new : K) (text : List ℕ) (result : Result (Unit {0}) WriteFault) : Type 0 where
  pub count : faults old ≤ faults new
  pub whole : OnOk result (written new ≡ appended (written old) text)
  pub cut_short : OnErr result (CutShort (written old) (written new) text)
  pub failed : IsErrOf result Sink → Rose (faults old) (faults new)
