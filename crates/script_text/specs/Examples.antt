-- Texts, with the script or the fault of each.
use Rattle.std.specs.Prelude.{◌≡◌, ℕ, ◌<◌, true, false, List, [], ◌∷◌, ◌++◌, length, codes, Result, Ok}
use Rattle.std.specs.List.{flat_map}
use Rattle.argo_model.specs.declared.scripts.Actor.TheVariants as actors
use Rattle.argo_model.specs.declared.line.Line.TheVariants as lines
use Rattle.argo_model.specs.Runs.Script.{Script}
use Rattle.script_text.specs.declared.kind.ScriptFault.{ScriptFault}
use Rattle.script_text.specs.declared.kind.ScriptKind.TheVariants.{Size, Header, Word, Place, Count, Number, Hex, Range, Domain, Limit}
use Rattle.script_text.specs.Scripts.{fault, scripts_of}

-- the lines, each with its line feed
abbrev pub text : List (List ℕ) → List ℕ
text ls = flat_map (λ l. l ++ 10 ∷ []) ls

-- a text with every line of format 1, a comment, tabs and carriage returns, and no line feed at its end
abbrev pub first_text : List ℕ
first_text =
    text ((codes "# every line" ++ 13 ∷ []) ∷ codes "argo 1" ∷ codes "domain 1 pages 2 off" ∷ (codes "domain" ++ 9 ∷ codes "0x7Fef pages 4608") ∷ [] ∷ codes "vcpu 1" ∷ codes " store 0x10 00ffAb" ∷ codes "load 4096 64" ∷ codes "op 1 0 0x10 18446744073709551615 5" ∷ codes "await 7" ∷ codes "recv 1 64" ∷ codes "control" ∷ [])
    ++ codes "destroy 0x7fef" ++ 13 ∷ []

abbrev pub first_script : Script
first_script = record {
  version = 1;
  domains = record { id = 1; pages = 2; on = false } ∷ record { id = 0x7fef; pages = 4608; on = true } ∷ [];
  sections = record {
    actor = actors.Vcpu 1 1;
    lines = lines.Store 16 (0 ∷ 255 ∷ 0xab ∷ []) ∷ lines.Load 4096 64 ∷ lines.Op 1 0 16 0xffff_ffff_ffff_ffff 5 ∷ lines.Await 7 ∷ lines.Recv 1 64 ∷ [];
  } ∷ record { actor = actors.Control; lines = lines.Destroy 0x7fef ∷ [] } ∷ [];
}

-- what format 2 adds
abbrev pub second_text : List ℕ
second_text = text (codes "argo 2" ∷ codes "domain 3 pages 1" ∷ codes "control" ∷ codes "reset 3" ∷ codes "create 3" ∷ codes "vcpu 3 gen 2" ∷ [])

abbrev pub second_script : Script
second_script = record {
  version = 2;
  domains = record { id = 3; pages = 1; on = true } ∷ [];
  sections = record { actor = actors.Control; lines = lines.Reset 3 ∷ lines.Create 3 ∷ [] } ∷ record { actor = actors.Vcpu 3 2; lines = [] } ∷ [];
}

-- the lines behind `argo 1`, a domain and its virtual CPU
abbrev pub after_vcpu : List (List ℕ) → Result Script ScriptFault
after_vcpu ls = scripts_of (text (codes "argo 1" ∷ codes "domain 1 pages 1" ∷ codes "vcpu 1" ∷ ls))

-- both formats
abbrev pub BothFormats : Type 0
BothFormats = (scripts_of first_text ≡ Ok first_script) × (scripts_of second_text ≡ Ok second_script)

-- a fault of each kind, with its line
pub record Faults : Type 0 where
  pub size : (bytes : List ℕ) → 4194304 < length bytes → scripts_of bytes ≡ fault 0 Size
  pub no_header : scripts_of [] ≡ fault 0 Header
  pub header : scripts_of (text ([] ∷ codes "argo 3" ∷ [])) ≡ fault 2 Header
  pub word : after_vcpu (codes "wait" ∷ []) ≡ fault 4 Word
  pub header_again : after_vcpu (codes "argo 1" ∷ []) ≡ fault 4 Word
  pub reset_of_two : after_vcpu (codes "reset" ∷ []) ≡ fault 4 Word
  pub pages : scripts_of (text (codes "argo 1" ∷ codes "domain x page y" ∷ [])) ≡ fault 2 Word
  pub place : after_vcpu (codes "domain" ∷ []) ≡ fault 4 Place
  pub control_again : after_vcpu (codes "control" ∷ codes "control" ∷ []) ≡ fault 5 Place
  pub count : after_vcpu (codes "store 0" ∷ codes "wait" ∷ []) ≡ fault 4 Count
  pub generation_of_two : after_vcpu (codes "vcpu 1 gen 1" ∷ []) ≡ fault 4 Count
  pub number : after_vcpu (codes "load 010 x" ∷ []) ≡ fault 4 Number
  pub number_too_large : after_vcpu (codes "load 18446744073709551616 1" ∷ []) ≡ fault 4 Number
  pub hex : after_vcpu (codes "store 0 abc" ∷ []) ≡ fault 4 Hex
  pub range : after_vcpu (codes "load 0 65" ∷ []) ≡ fault 4 Range
  pub domain : after_vcpu (codes "vcpu 2" ∷ []) ≡ fault 4 Domain
  pub limit : after_vcpu (codes "await 1048576" ∷ codes "await 1" ∷ []) ≡ fault 5 Limit
