-- The texts of the answers.
use Rattle.std.specs.Prelude.{ℕ, List, ◌++◌, codes, decimal}
use Rattle.script_text.specs.declared.kind.ScriptFault.{ScriptFault}
use Rattle.script_text.specs.Kind.{kind_text}

abbrev pub usage_text : List ℕ
usage_text = codes "usage: argo_check [why V K]\n"

abbrev pub large_text : List ℕ
large_text = codes "too large\n"

abbrev pub mark_text : List ℕ
mark_text = codes "no mark\n"

abbrev pub yes_text : List ℕ
yes_text = codes "yes\n"

abbrev pub no_text : ℕ → List ℕ
no_text n = codes "no line " ++ decimal n ++ codes "\n"

-- the line of a fault
abbrev pub fault_text : ScriptFault → List ℕ
fault_text f = codes "script line " ++ decimal f.line ++ codes ": " ++ kind_text f.kind ++ codes "\n"
