-- The first words of lines.
use Rattle.std.specs.Prelude.{ℕ, ◌&&◌, ◌==◌, if◌then◌else◌, List, codes, Option, Some, None}
use Rattle.std.specs.Str.{bytes_eq}
use Rattle.script_text.specs.declared.verb.Verb.{Verb}
use Rattle.script_text.specs.declared.verb.Verb.TheVariants.{Domain, Vcpu, Control, Store, Load, Op, Await, Recv, Destroy, Reset, Create}

-- the verbs of format 1
abbrev pub verb_of_one : List ℕ → Option Verb
verb_of_one w =
    if bytes_eq w (codes "domain") then Some Domain
    else (if bytes_eq w (codes "vcpu") then Some Vcpu
    else (if bytes_eq w (codes "control") then Some Control
    else (if bytes_eq w (codes "store") then Some Store
    else (if bytes_eq w (codes "load") then Some Load
    else (if bytes_eq w (codes "op") then Some Op
    else (if bytes_eq w (codes "await") then Some Await
    else (if bytes_eq w (codes "recv") then Some Recv
    else (if bytes_eq w (codes "destroy") then Some Destroy
    else None))))))))

-- format 2 has two more
abbrev pub verb_of : ℕ → List ℕ → Option Verb
verb_of version w =
    if (version == 2) && bytes_eq w (codes "reset") then Some Reset
    else (if (version == 2) && bytes_eq w (codes "create") then Some Create
    else verb_of_one w)
