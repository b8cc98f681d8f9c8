-- A worked example of a domain that writes over its own ring: a whole report.
use Rattle.std.specs.Prelude.{◌≡◌, List, [], ◌∷◌, ◌++◌, replicate, codes}
use Rattle.argo_base.specs.Layout.{addr_bytes, ring_data_bytes}
use Rattle.argo_base.specs.Match.{wildcard}
use Rattle.argo_model.specs.declared.line.Line.{Line}
use Rattle.argo_model.specs.declared.line.Line.TheVariants.{Store, Load, Op}
use Rattle.argo_model.specs.Runs.Script.{Script}
use Rattle.argo_model.specs.Runs.Final.{final_of}
use Rattle.argo_model.specs.Runs.Report.{report_of}
use Rattle.argo_model.specs.Examples.Words.{domain, section, register_lines, send_from, text}

-- a domain sends to itself out of its own slots, and lets notify write its answer over the ring's words. The bytes that are
-- accepted are those that were fetched; the ring is dirty then, and takes the next body by the words as they are
abbrev pub own_slots_lines : List Line
own_slots_lines =
    register_lines 5 wildcard 96 1
    ++ (send_from 0x1040 1 1 5 16
    ++ (Store 0xff0 (ring_data_bytes 1 0 ++ addr_bytes 5 1 0)
    ∷ Op 4 0xff0 0 0 0
    ∷ Load 0x1000 12
    ∷ Op 3 0x20 0x30 1 7
    ∷ []))

abbrev pub own_slots_script : Script
own_slots_script =
    record {
      version = 1;
      domains = domain 1 2 ∷ [];
      sections =
          section 1 (own_slots_lines)
          ∷ [];
    }

abbrev pub SendOutOfOwnSlots : Type 0
SendOutOfOwnSlots =
    report_of (final_of own_slots_script (replicate 24 0))
    ≡ text (
    codes "argo report 1"
    ∷ codes "schedule 0*24"
    ∷ codes "reply 0 1 ok"
    ∷ codes "reply 0 2 ok"
    ∷ codes "reply 0 3 0"
    ∷ codes "reply 0 4 ok"
    ∷ codes "reply 0 5 ok"
    ∷ codes "reply 0 6 16"
    ∷ codes "reply 0 7 ok"
    ∷ codes "reply 0 8 0"
    ∷ codes "reply 0 9 0b0000002000000040000000"
    ∷ codes "reply 0 10 16"
    ∷ codes "domain 1 alive flag"
    ∷ codes "ring 1 5 any len 96 tx 64 dirty"
    ∷ codes "slots 0 2000000009000000010000000700000000000000000000000000000000000000"
    ∷ codes "slots 32 2000000009000000010000000700000020000000090000000100000007000000"
    ∷ codes "vcpu 0 steps 24 accepted 2 bytes 32"
    ∷ codes "end"
    ∷ [])
