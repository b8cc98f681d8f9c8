-- Reports of small runs, whole.
use Rattle.std.specs.Prelude.{◌≡◌, ℕ, Bool, true, false, List, [], ◌∷◌, ◌++◌, codes, replicate, pos, negsuc}
use Rattle.std.specs.List.{range_with_len}
use Rattle.argo_model.specs.declared.reply.Reply.{Reply}
use Rattle.argo_model.specs.declared.reply.Reply.TheVariants.{Stored, Hex, Number, Fault, Gone}
use Rattle.argo_model.specs.declared.closing.Run.{Run}
use Rattle.argo_model.specs.declared.closing.Totals.{Totals}
use Rattle.argo_model.specs.declared.closing.DoneLine.{DoneLine}
use Rattle.argo_model.specs.declared.closing.FinalDomain.{FinalDomain}
use Rattle.argo_model.specs.declared.closing.FinalRing.{FinalRing}
use Rattle.argo_model.specs.declared.closing.Final.{Final}
use Rattle.argo_model.specs.Runs.Report.{report_of}

-- the line of a section that is done, with its reply
abbrev done : ℕ → ℕ → Reply → DoneLine
done vcpu place reply = record { vcpu = vcpu; line = place; reply = reply }

-- a domain that lives and is on
abbrev living : ℕ → ℕ → Bool → List FinalRing → FinalDomain
living id generation flag rings = record { id = id; on = true; alive = true; generation = generation; flag = flag; rings = rings }

-- so many steps of a section, one after another
abbrev steps : ℕ → ℕ → Run
steps vcpu count = record { vcpu = vcpu; count = count }

-- what a section did
abbrev did : ℕ → ℕ → ℕ → Totals
did steps accepted bytes = record { steps = steps; accepted = accepted; bytes = bytes }

-- a section stores eight bytes across the end of a page, loads them again, and meets the end of its pages
abbrev pub store_across_pages : Final
store_across_pages = record {
  version = 1;
  runs = steps 0 8 ∷ [];
  done =
      done 0 1 Stored ∷ done 0 2 (Hex (range_with_len 1 8)) ∷ done 0 3 Fault ∷ done 0 4 (Hex (range_with_len 1 4))
      ∷ done 0 5 Fault ∷ [];
  domains = living 1 1 false [] ∷ [];
  totals = did 8 0 0 ∷ [];
}

abbrev pub StoreAcrossPages : Type 0
StoreAcrossPages =
    report_of store_across_pages
    ≡ codes "argo report 1\nschedule 0*8\nreply 0 1 ok\nreply 0 2 0102030405060708\nreply 0 3 fault\n"
    ++ codes "reply 0 4 01020304\nreply 0 5 fault\ndomain 1 alive clear\nvcpu 0 steps 8 accepted 0 bytes 0\nend\n"

-- a ring of 48 bytes with the message that fills it, and its sender's notice
abbrev full_ring : ℕ → List ℕ → FinalRing
full_ring partner body = record {
  key = record { port = 5; partner = partner };
  len = 48;
  tx = 32;
  clean = true;
  untaken = record { src = 2; port = 9; kind = 7; body = body } ∷ [];
  notices = record { dom = 2; size = 16 } ∷ [];
  slots = 32 ∷ 0 ∷ 0 ∷ 0 ∷ 9 ∷ 0 ∷ 0 ∷ 0 ∷ 2 ∷ 0 ∷ 0 ∷ 0 ∷ 7 ∷ 0 ∷ 0 ∷ 0 ∷ [] ++ (body ++ replicate 16 0);
}

-- a body fills a ring, and a second one is noted
abbrev pub second_body_gets_a_notice : Final
second_body_gets_a_notice = record {
  version = 1;
  runs = steps 0 5 ∷ steps 1 11 ∷ [];
  done =
      done 0 1 Stored ∷ done 0 2 Stored ∷ done 0 3 (Number (pos 0)) ∷ done 1 1 Stored ∷ done 1 2 Stored ∷ done 1 3 Stored
      ∷ done 1 4 (Number (pos 16)) ∷ done 1 5 (Number (negsuc 10)) ∷ [];
  domains = living 1 1 true (full_ring 2 (range_with_len 0 16) ∷ []) ∷ living 2 1 false [] ∷ [];
  totals = did 5 0 0 ∷ did 11 1 16 ∷ [];
}

abbrev pub SecondBodyGetsANotice : Type 0
SecondBodyGetsANotice =
    report_of second_body_gets_a_notice
    ≡ codes "argo report 1\nschedule 0*5 1*11\nreply 0 1 ok\nreply 0 2 ok\nreply 0 3 0\nreply 1 1 ok\nreply 1 2 ok\n"
    ++ (codes "reply 1 3 ok\nreply 1 4 16\nreply 1 5 -11\ndomain 1 alive flag\nring 1 5 2 len 48 tx 32 clean\n"
    ++ (codes "message 2 9 7 16\nnotice 2 16\nslots 0 20000000090000000200000007000000000102030405060708090a0b0c0d0e0f\n"
    ++ codes "domain 2 alive clear\nvcpu 0 steps 5 accepted 0 bytes 0\nvcpu 1 steps 11 accepted 1 bytes 16\nend\n"))

-- a script of format 2: a sender's domain is ended and made anew, and its message and its new notice stay on a wildcard ring
abbrev pub reset_and_create : Final
reset_and_create = record {
  version = 2;
  runs = steps 0 5 ∷ steps 1 12 ∷ steps 2 4 ∷ steps 3 7 ∷ steps 4 1 ∷ [];
  done =
      done 0 1 Stored ∷ done 0 2 Stored ∷ done 0 3 (Number (pos 0)) ∷ done 1 1 Stored ∷ done 1 2 Stored
      ∷ done 1 3 (Number (pos 16)) ∷ done 1 4 Stored ∷ done 1 5 Stored ∷ done 1 6 (Number (negsuc 10))
      ∷ done 2 1 (Number (pos 0)) ∷ done 2 2 (Number (negsuc 16)) ∷ done 2 3 (Number (pos 0)) ∷ done 2 4 (Number (pos 0))
      ∷ done 3 1 Stored ∷ done 3 2 Stored ∷ done 3 3 (Number (negsuc 10)) ∷ done 3 4 (Hex (0 ∷ [])) ∷ done 4 1 Gone ∷ [];
  domains = living 1 1 true (full_ring 0x7FF4 (replicate 16 0) ∷ []) ∷ living 2 2 false [] ∷ [];
  totals = did 5 0 0 ∷ did 12 1 16 ∷ did 4 0 0 ∷ did 7 0 0 ∷ did 1 0 0 ∷ [];
}

abbrev pub ResetAndCreate : Type 0
ResetAndCreate =
    report_of reset_and_create
    ≡ codes "argo report 2\nschedule 0*5 1*12 2*4 3*7 4*1\nreply 0 1 ok\nreply 0 2 ok\nreply 0 3 0\nreply 1 1 ok\n"
    ++ (codes "reply 1 2 ok\nreply 1 3 16\nreply 1 4 ok\nreply 1 5 ok\nreply 1 6 -11\nreply 2 1 0\nreply 2 2 -17\n"
    ++ (codes "reply 2 3 0\nreply 2 4 0\nreply 3 1 ok\nreply 3 2 ok\nreply 3 3 -11\nreply 3 4 00\nreply 4 1 gone\n"
    ++ (codes "domain 1 gen 1 alive flag\nring 1 5 any len 48 tx 32 clean\nmessage 2 9 7 16\nnotice 2 16\n"
    ++ (codes "slots 0 2000000009000000020000000700000000000000000000000000000000000000\ndomain 2 gen 2 alive clear\n"
    ++ (codes "vcpu 0 steps 5 accepted 0 bytes 0\nvcpu 1 steps 12 accepted 1 bytes 16\n"
    ++ (codes "vcpu 2 steps 4 accepted 0 bytes 0\nvcpu 3 steps 7 accepted 0 bytes 0\nvcpu 4 steps 1 accepted 0 bytes 0\n"
    ++ codes "end\n"))))))
