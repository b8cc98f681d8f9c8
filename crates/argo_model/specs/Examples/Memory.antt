-- Worked examples of a domain's own memory: whole reports.
use Rattle.std.specs.Prelude.{◌≡◌, [], ◌∷◌, replicate, codes}
use Rattle.std.specs.List.{range_with_len}
use Rattle.argo_model.specs.declared.line.Line.TheVariants.{Store, Load}
use Rattle.argo_model.specs.Runs.Script.{Script}
use Rattle.argo_model.specs.Runs.Final.{final_of}
use Rattle.argo_model.specs.Runs.Report.{report_of}
use Rattle.argo_model.specs.Examples.Words.{domain, section, text}

-- a store over a page's end and its load take two steps each; a store past the last page writes its first piece, and then meets
-- a fault
abbrev pub across_pages_script : Script
across_pages_script =
    record {
      version = 1;
      domains = domain 1 2 ∷ [];
      sections =
          section 1 (
          Store 0xffc (range_with_len 1 8)
          ∷ Load 0xffc 8
          ∷ Store 0x1ffc (range_with_len 1 8)
          ∷ Load 0x1ffc 4
          ∷ Load 0x2000 1
          ∷ [])
          ∷ [];
    }

abbrev pub StoreAcrossPages : Type 0
StoreAcrossPages =
    report_of (final_of across_pages_script (replicate 8 0))
    ≡ text (
    codes "argo report 1"
    ∷ codes "schedule 0*8"
    ∷ codes "reply 0 1 ok"
    ∷ codes "reply 0 2 0102030405060708"
    ∷ codes "reply 0 3 fault"
    ∷ codes "reply 0 4 01020304"
    ∷ codes "reply 0 5 fault"
    ∷ codes "domain 1 alive clear"
    ∷ codes "vcpu 0 steps 8 accepted 0 bytes 0"
    ∷ codes "end"
    ∷ [])
