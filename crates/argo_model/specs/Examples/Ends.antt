-- Worked examples of domains that end and begin anew: whole reports.
use Rattle.std.specs.Prelude.{◌≡◌, [], ◌∷◌, ◌++◌, replicate, codes}
use Rattle.std.specs.List.{range_with_len}
use Rattle.argo_base.specs.Layout.{addr_bytes, send_addr_bytes, iov_bytes}
use Rattle.argo_base.specs.Match.{wildcard}
use Rattle.argo_model.specs.declared.line.Line.TheVariants.{Store, Load, Op, Destroy, Reset, Create}
use Rattle.argo_model.specs.Runs.Script.{Script}
use Rattle.argo_model.specs.Runs.Final.{final_of}
use Rattle.argo_model.specs.Runs.Report.{report_of}
use Rattle.argo_model.specs.Examples.Words.{domain, section, section_of_generation, control, register_lines, send_lines, text}

-- under this schedule a sender is destroyed after it has gathered a body and before it delivers it: its send and its next line
-- are gone, and the ring stays empty
abbrev pub destroyed_script : Script
destroyed_script =
    record {
      version = 1;
      domains = domain 1 2 ∷ domain 2 1 ∷ [];
      sections =
          section 1 (register_lines 5 wildcard 48 1)
          ∷ section 2 (
          Store 0 (send_addr_bytes (addr_bytes 9 2 0) (addr_bytes 5 1 0))
          ∷ Store 0x10 (iov_bytes 0x40 16 0)
          ∷ Store 0x40 (range_with_len 0 16)
          ∷ Op 3 0 0x10 1 7
          ∷ Load 0 1
          ∷ [])
          ∷ control (Destroy 2 ∷ [])
          ∷ [];
    }

abbrev pub DestroyedBetweenGatherAndDelivery : Type 0
DestroyedBetweenGatherAndDelivery =
    report_of (final_of destroyed_script (replicate 5 0 ++ (replicate 6 1 ++ (replicate 1 2 ++ replicate 2 1))))
    ≡ text (
    codes "argo report 1"
    ∷ codes "schedule 0*5 1*6 2*1 1*2"
    ∷ codes "reply 0 1 ok"
    ∷ codes "reply 0 2 ok"
    ∷ codes "reply 0 3 0"
    ∷ codes "reply 1 1 ok"
    ∷ codes "reply 1 2 ok"
    ∷ codes "reply 1 3 ok"
    ∷ codes "reply 2 1 0"
    ∷ codes "reply 1 4 gone"
    ∷ codes "reply 1 5 gone"
    ∷ codes "domain 1 alive clear"
    ∷ codes "ring 1 5 any len 48 tx 0 clean"
    ∷ codes "domain 2 gone clear"
    ∷ codes "vcpu 0 steps 5 accepted 0 bytes 0"
    ∷ codes "vcpu 1 steps 8 accepted 0 bytes 0"
    ∷ codes "vcpu 2 steps 1 accepted 0 bytes 0"
    ∷ codes "end"
    ∷ [])

-- a sender is reset, destroyed and created anew: its message stays and its notice ends; its next generation starts with zeros,
-- and a section of its first generation is gone
abbrev pub reset_and_create_script : Script
reset_and_create_script =
    record {
      version = 2;
      domains = domain 1 2 ∷ domain 2 1 ∷ [];
      sections =
          section 1 (register_lines 5 wildcard 48 1)
          ∷ section 2 (send_lines 2 1 5 16 ++ send_lines 2 1 5 16)
          ∷ control (Reset 2 ∷ Create 2 ∷ Destroy 2 ∷ Create 2 ∷ [])
          ∷ section_of_generation 2 2 (send_lines 2 1 5 16 ++ Load 0x100 1 ∷ [])
          ∷ section 2 (Load 0 1 ∷ [])
          ∷ [];
    }

abbrev pub ResetAndCreate : Type 0
ResetAndCreate =
    report_of (final_of reset_and_create_script (replicate 5 0 ++ (replicate 12 1 ++ (replicate 4 2 ++ (replicate 7 3 ++ replicate 1 4)))))
    ≡ text (
    codes "argo report 2"
    ∷ codes "schedule 0*5 1*12 2*4 3*7 4*1"
    ∷ codes "reply 0 1 ok"
    ∷ codes "reply 0 2 ok"
    ∷ codes "reply 0 3 0"
    ∷ codes "reply 1 1 ok"
    ∷ codes "reply 1 2 ok"
    ∷ codes "reply 1 3 16"
    ∷ codes "reply 1 4 ok"
    ∷ codes "reply 1 5 ok"
    ∷ codes "reply 1 6 -11"
    ∷ codes "reply 2 1 0"
    ∷ codes "reply 2 2 -17"
    ∷ codes "reply 2 3 0"
    ∷ codes "reply 2 4 0"
    ∷ codes "reply 3 1 ok"
    ∷ codes "reply 3 2 ok"
    ∷ codes "reply 3 3 -11"
    ∷ codes "reply 3 4 00"
    ∷ codes "reply 4 1 gone"
    ∷ codes "domain 1 gen 1 alive flag"
    ∷ codes "ring 1 5 any len 48 tx 32 clean"
    ∷ codes "message 2 9 7 16"
    ∷ codes "notice 2 16"
    ∷ codes "slots 0 2000000009000000020000000700000000000000000000000000000000000000"
    ∷ codes "domain 2 gen 2 alive clear"
    ∷ codes "vcpu 0 steps 5 accepted 0 bytes 0"
    ∷ codes "vcpu 1 steps 12 accepted 1 bytes 16"
    ∷ codes "vcpu 2 steps 4 accepted 0 bytes 0"
    ∷ codes "vcpu 3 steps 7 accepted 0 bytes 0"
    ∷ codes "vcpu 4 steps 1 accepted 0 bytes 0"
    ∷ codes "end"
    ∷ [])
