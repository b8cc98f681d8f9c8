-- Worked examples of messages that are taken: whole reports.
use Rattle.std.specs.Prelude.{◌≡◌, [], ◌∷◌, ◌++◌, replicate, codes}
use Rattle.std.specs.List.{range_with_len}
use Rattle.argo_base.specs.Layout.{addr_bytes, send_addr_bytes, iov_bytes}
use Rattle.argo_model.specs.declared.line.Line.TheVariants.{Store, Op, Await, Recv}
use Rattle.argo_model.specs.Runs.Script.{Script}
use Rattle.argo_model.specs.Runs.Final.{final_of}
use Rattle.argo_model.specs.Runs.Report.{report_of}
use Rattle.argo_model.specs.Examples.Words.{domain, section, register_lines, send_lines, notify_line, text}

-- a body of 20 is taken from a ring of 96, and a body of 40 is written round the ring's end over the old bytes
abbrev pub wrapped_script : Script
wrapped_script =
    record {
      version = 1;
      domains = domain 1 2 ∷ domain 2 2 ∷ [];
      sections =
          section 1 (register_lines 5 2 96 1)
          ∷ section 2 (Store 0x100 (replicate 20 0xaa) ∷ send_lines 2 1 5 20)
          ∷ section 1 (Recv 1 96 ∷ [])
          ∷ section 2 (Store 0x100 (range_with_len 0 40) ∷ send_lines 2 1 5 40)
          ∷ [];
    }

abbrev pub WrappedBody : Type 0
WrappedBody =
    report_of (final_of wrapped_script (replicate 5 0 ++ (replicate 7 1 ++ (replicate 5 2 ++ replicate 7 3))))
    ≡ text (
    codes "argo report 1"
    ∷ codes "schedule 0*5 1*7 2*5 3*7"
    ∷ codes "reply 0 1 ok"
    ∷ codes "reply 0 2 ok"
    ∷ codes "reply 0 3 0"
    ∷ codes "reply 1 1 ok"
    ∷ codes "reply 1 2 ok"
    ∷ codes "reply 1 3 ok"
    ∷ codes "reply 1 4 20"
    ∷ codes "reply 2 1 msg 2 9 7 20 aaaaaaaaaaaaaaaaaaaaaaaaaaaaaaaaaaaaaaaa"
    ∷ codes "reply 3 1 ok"
    ∷ codes "reply 3 2 ok"
    ∷ codes "reply 3 3 ok"
    ∷ codes "reply 3 4 40"
    ∷ codes "domain 1 alive flag"
    ∷ codes "ring 1 5 2 len 96 tx 16 clean"
    ∷ codes "message 2 9 7 40"
    ∷ codes "slots 0 20212223242526270200000007000000aaaaaaaaaaaaaaaaaaaaaaaaaaaaaaaa"
    ∷ codes "slots 32 aaaaaaaa00000000000000000000000038000000090000000200000007000000"
    ∷ codes "slots 64 000102030405060708090a0b0c0d0e0f101112131415161718191a1b1c1d1e1f"
    ∷ codes "domain 2 alive clear"
    ∷ codes "vcpu 0 steps 5 accepted 0 bytes 0"
    ∷ codes "vcpu 1 steps 7 accepted 1 bytes 20"
    ∷ codes "vcpu 2 steps 5 accepted 0 bytes 0"
    ∷ codes "vcpu 3 steps 7 accepted 1 bytes 40"
    ∷ codes "end"
    ∷ [])

-- two domains, each with a ring for the other: the one sends, the other waits for its flag, takes the message and answers
abbrev pub ping_and_pong_script : Script
ping_and_pong_script =
    record {
      version = 1;
      domains = domain 1 2 ∷ domain 2 2 ∷ [];
      sections =
          section 1 (register_lines 5 2 96 1)
          ∷ section 2 (register_lines 6 1 96 1)
          ∷ section 1 (
          Store 0x20 (send_addr_bytes (addr_bytes 5 1 0) (addr_bytes 6 2 0))
          ∷ Store 0x30 (iov_bytes 0x40 4 0)
          ∷ Store 0x40 (codes "ping")
          ∷ Op 3 0x20 0x30 1 1
          ∷ [])
          ∷ section 2 (
          Await 1000
          ∷ Recv 1 96
          ∷ notify_line
          ∷ Store 0x20 (send_addr_bytes (addr_bytes 6 2 0) (addr_bytes 5 1 0))
          ∷ Store 0x30 (iov_bytes 0x40 4 0)
          ∷ Store 0x40 (codes "pong")
          ∷ Op 3 0x20 0x30 1 2
          ∷ [])
          ∷ section 1 (Await 1000 ∷ Recv 1 96 ∷ notify_line ∷ [])
          ∷ [];
    }

abbrev pub PingAndPong : Type 0
PingAndPong =
    report_of (final_of ping_and_pong_script (replicate 5 0 ++ (replicate 5 1 ++ (replicate 7 2 ++ (replicate 15 3 ++ replicate 8 4)))))
    ≡ text (
    codes "argo report 1"
    ∷ codes "schedule 0*5 1*5 2*7 3*15 4*8"
    ∷ codes "reply 0 1 ok"
    ∷ codes "reply 0 2 ok"
    ∷ codes "reply 0 3 0"
    ∷ codes "reply 1 1 ok"
    ∷ codes "reply 1 2 ok"
    ∷ codes "reply 1 3 0"
    ∷ codes "reply 2 1 ok"
    ∷ codes "reply 2 2 ok"
    ∷ codes "reply 2 3 ok"
    ∷ codes "reply 2 4 4"
    ∷ codes "reply 3 1 signal"
    ∷ codes "reply 3 2 msg 1 5 1 4 70696e67"
    ∷ codes "reply 3 3 0"
    ∷ codes "reply 3 4 ok"
    ∷ codes "reply 3 5 ok"
    ∷ codes "reply 3 6 ok"
    ∷ codes "reply 3 7 4"
    ∷ codes "reply 4 1 signal"
    ∷ codes "reply 4 2 msg 2 6 2 4 706f6e67"
    ∷ codes "reply 4 3 0"
    ∷ codes "domain 1 alive clear"
    ∷ codes "ring 1 5 2 len 96 tx 32 clean"
    ∷ codes "slots 0 14000000060000000200000002000000706f6e67000000000000000000000000"
    ∷ codes "domain 2 alive clear"
    ∷ codes "ring 2 6 1 len 96 tx 32 clean"
    ∷ codes "slots 0 1400000005000000010000000100000070696e67000000000000000000000000"
    ∷ codes "vcpu 0 steps 5 accepted 0 bytes 0"
    ∷ codes "vcpu 1 steps 5 accepted 0 bytes 0"
    ∷ codes "vcpu 2 steps 7 accepted 1 bytes 4"
    ∷ codes "vcpu 3 steps 15 accepted 1 bytes 4"
    ∷ codes "vcpu 4 steps 8 accepted 0 bytes 0"
    ∷ codes "end"
    ∷ [])
