-- Why there are no scripts, against what a definition gives.
use Rattle.std.specs.Prelude.{◌≡◌, ℕ, Result, Ok, Err}
use Rattle.script_text.specs.declared.kind.ReadFault.{ReadFault}
use Rattle.script_text.specs.declared.kind.ReadFault.TheVariants as faults
use Rattle.script_text.specs.declared.kind.ScriptFault.{ScriptFault}
use Rattle.script_text.specs.declared.kind.Cause.{Cause}
use Rattle.script_text.specs.declared.kind.Cause.TheVariants as causes

-- the fault is the one that the definition gives, unless memory ran out
abbrev pub IsCause : {X : Type 0} → ReadFault → Result X ScriptFault → Type 0
IsCause (faults.Script f) given = given ≡ Err f
IsCause faults.NoMemory given = Unit {0}

-- the value that the definition gives, or its fault, unless memory ran out
abbrev pub Finds : {X : Type 0} → Result X ReadFault → Result X ScriptFault → Type 0
Finds (Ok x) given = given ≡ Ok x
Finds (Err e) given = IsCause e given

-- the cause at a line
abbrev pub at : ℕ → Cause → ReadFault
at n (causes.Kind k) = faults.Script (record { line = n; kind = k })
at n causes.NoMemory = faults.NoMemory
