-- What a function of the program returns, against what a definition gives.
use Rattle.std.specs.Prelude.{◌≡◌, ℕ, List, ◌∷◌, Result, Ok, Err}
use Rattle.script_text.specs.declared.kind.ScriptKind.{ScriptKind}
use Rattle.script_text.specs.declared.kind.Cause.{Cause}
use Rattle.script_text.specs.declared.kind.Cause.TheVariants as causes

-- the value, seen by view, or the fault
abbrev pub Reads : {X Y : Type 0} → (X → Y) → Result X ScriptKind → Result Y ScriptKind → Type 0
Reads view (Ok x) read = read ≡ Ok (view x)
Reads view (Err k) read = read ≡ Err k

-- the fault, unless memory ran out
abbrev pub Fails : {Y : Type 0} → Cause → Result Y ScriptKind → Type 0
Fails causes.NoMemory read = Unit {0}
Fails (causes.Kind k) read = read ≡ Err k

-- the value, seen by view, or the fault, unless memory ran out
abbrev pub Gives : {X Y : Type 0} → (X → Y) → Result X Cause → Result Y ScriptKind → Type 0
Gives view (Ok x) read = read ≡ Ok (view x)
Gives view (Err e) read = Fails e read

-- at least one word
abbrev pub HasWord : List (List ℕ) → Type 0
HasWord ws = (first : List ℕ) × (others : List (List ℕ)) × (ws ≡ first ∷ others)
