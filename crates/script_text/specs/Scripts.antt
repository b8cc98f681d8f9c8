-- The script that a text is, or its first fault.
use Rattle.std.specs.Prelude.{ℕ, nat_lt, if◌then◌else◌, List, [], ◌∷◌, length, codes, Result, Ok, Err}
use Rattle.std.specs.Str.{bytes_eq}
use Rattle.argo_model.specs.Runs.Script.{Script}
use Rattle.script_text.specs.declared.kind.ScriptKind.{ScriptKind}
use Rattle.script_text.specs.declared.kind.ScriptKind.TheVariants.{Size, Header}
use Rattle.script_text.specs.declared.kind.ScriptFault.{ScriptFault}
use Rattle.script_text.specs.Lines.{lines_of, said_from}
use Rattle.script_text.specs.Entries.{unless}
use Rattle.script_text.specs.Reading.{line_read}

-- a fault of a line; line 0 is the script as a whole
abbrev pub fault : {A : Type 0} → ℕ → ScriptKind → Result A ScriptFault
fault n k = Err (record { line = n; kind = k })

-- what follows a line that was read, or the fault of that line
abbrev pub then_on : {A B : Type 0} → ℕ → Result A ScriptKind → (A → Result B ScriptFault) → Result B ScriptFault
then_on n (Ok x) next = next x
then_on n (Err k) next = fault n k

-- the format that a word names
abbrev pub version_of : List ℕ → Result ℕ ScriptKind
version_of w = if bytes_eq w (codes "1") then Ok 1 else (if bytes_eq w (codes "2") then Ok 2 else Err Header)

-- the first line is `argo 1` or `argo 2`
abbrev pub header_of : List (List ℕ) → Result ℕ ScriptKind
header_of (argo ∷ version ∷ []) = unless (bytes_eq argo (codes "argo")) Header (version_of version)
header_of _ = Err Header

-- the lines in their order, up to the first with a fault
abbrev pub read_on : List (ℕ × List (List ℕ)) → Script → Result Script ScriptFault
read_on [] s = Ok s
read_on (l ∷ ls) s = then_on l.0 (line_read s l.1) (λ next. read_on ls next)

-- the header, and what follows it
abbrev pub script_of : List (ℕ × List (List ℕ)) → Result Script ScriptFault
script_of [] = fault 0 Header
script_of (l ∷ ls) = then_on l.0 (header_of l.1) (λ version. read_on ls (record { version = version; domains = []; sections = [] }))

-- the script that a text of at most 4,194,304 bytes is, or its first fault
abbrev pub scripts_of : List ℕ → Result Script ScriptFault
scripts_of text = if nat_lt 4194304 (length text) then fault 0 Size else script_of (said_from 1 (lines_of text))
