-- Worked examples of messages: whole reports.
use Rattle.std.specs.Prelude.{◌≡◌, [], ◌∷◌, ◌++◌, replicate, codes}
use Rattle.std.specs.List.{range_with_len}
use Rattle.argo_base.specs.Layout.{addr_bytes, send_addr_bytes, iov_bytes}
use Rattle.argo_model.specs.declared.line.Line.TheVariants.{Store, Op}
use Rattle.argo_model.specs.Runs.Script.{Script}
use Rattle.argo_model.specs.Runs.Final.{final_of}
use Rattle.argo_model.specs.Runs.Report.{report_of}
use Rattle.argo_model.specs.Examples.Words.{domain, section, register_lines, text}

-- a ring of 48 takes one body of 16 bytes; the second finds no room, and the sender is noted
abbrev pub second_body_script : Script
second_body_script =
    record {
      version = 1;
      domains = domain 1 2 ∷ domain 2 1 ∷ [];
      sections =
          section 1 (register_lines 5 2 48 1)
          ∷ section 2 (
          Store 0 (send_addr_bytes (addr_bytes 9 2 0) (addr_bytes 5 1 0))
          ∷ Store 0x10 (iov_bytes 0x40 16 0)
          ∷ Store 0x40 (range_with_len 0 16)
          ∷ Op 3 0 0x10 1 7
          ∷ Op 3 0 0x10 1 7
          ∷ [])
          ∷ [];
    }

abbrev pub SecondBodyGetsANotice : Type 0
SecondBodyGetsANotice =
    report_of (final_of second_body_script (replicate 5 0 ++ replicate 11 1))
    ≡ text (
    codes "argo report 1"
    ∷ codes "schedule 0*5 1*11"
    ∷ codes "reply 0 1 ok"
    ∷ codes "reply 0 2 ok"
    ∷ codes "reply 0 3 0"
    ∷ codes "reply 1 1 ok"
    ∷ codes "reply 1 2 ok"
    ∷ codes "reply 1 3 ok"
    ∷ codes "reply 1 4 16"
    ∷ codes "reply 1 5 -11"
    ∷ codes "domain 1 alive flag"
    ∷ codes "ring 1 5 2 len 48 tx 32 clean"
    ∷ codes "message 2 9 7 16"
    ∷ codes "notice 2 16"
    ∷ codes "slots 0 20000000090000000200000007000000000102030405060708090a0b0c0d0e0f"
    ∷ codes "domain 2 alive clear"
    ∷ codes "vcpu 0 steps 5 accepted 0 bytes 0"
    ∷ codes "vcpu 1 steps 11 accepted 1 bytes 16"
    ∷ codes "end"
    ∷ [])
