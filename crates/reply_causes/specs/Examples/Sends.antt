-- Worked examples of the table of sendv.
use Rattle.std.specs.Prelude.{◌≡◌, ℕ, ◌^◌, Bool, true, false, List, [], ◌∷◌, ◌++◌, map, replicate, pos}
use Rattle.std.specs.List.{range_with_len}
use Rattle.argo_base.specs.Layout.{addr_bytes, send_addr_bytes, iov_bytes}
use Rattle.argo_base.specs.Match.{key_of, wildcard}
use Rattle.argo_base.specs.Notices.{Notices}
use Rattle.argo_model.specs.declared.reply.Reply.{Reply}
use Rattle.argo_model.specs.declared.reply.Reply.TheVariants.{Number}
use Rattle.argo_model.specs.Rules.State.{State, Domain}
use Rattle.reply_causes.specs.Tables.{Call}
use Rattle.reply_causes.specs.Causes.{cause_of_send}
use Rattle.reply_causes.specs.Examples.Words.{page_with, living, both_of, pageless, departed, small_ring, call_with, minus}

-- domain 1 names itself as this source with port 9, domain 2 and its port 5; at 16 stands an iov of so many bytes at 32
abbrev pub sender_with : Bool → (source pad iov_pad size : ℕ) → Domain
sender_with on source pad iov_pad size =
    living on (page_with (send_addr_bytes (addr_bytes 9 source pad) (addr_bytes 5 2 0) ++ iov_bytes 32 size iov_pad)) []

-- two iovs, which together are longer than any body
abbrev pub long_memory : List ℕ
long_memory = page_with (send_addr_bytes (addr_bytes 9 1 0) (addr_bytes 5 2 0) ++ (iov_bytes 64 0xFFFFE0 0 ++ iov_bytes 64 1 0))

abbrev pub sender : ℕ → Domain
sender size = sender_with true 1 0 0 size

-- domain 2 has a ring of 48 for domain 1, whose next message is at this place, with these notices
abbrev pub receiver : ℕ → Notices → Domain
receiver tx notices = living true (page_with []) ((key_of 5 1, record small_ring { tx = tx; notices = notices }) ∷ [])

abbrev pub ready : Domain
ready = receiver 0 []

-- the notices of 32 others
abbrev pub crowd : Notices
crowd = map (λ d. (d, 1)) (range_with_len 10 32)

-- a send of one iov, whose four steps find one state
abbrev pub one_iov : Call
one_iov = call_with 0 16 1 7

abbrev pub sent_in : Call → State → Reply
sent_in c s = cause_of_send c (replicate 4 s)

pub record SendRows : Type 0 where
  pub too_many_iovs : sent_in (call_with 0 16 9 7) (both_of (sender 4) ready) ≡ minus 22
  pub wide_type : sent_in (call_with 0 16 1 (2 ^ 32)) (both_of (sender 4) ready) ≡ minus 22
  pub absent_addresses : sent_in (call_with 4090 16 1 7) (both_of (sender 4) ready) ≡ minus 14
  pub pad : sent_in one_iov (both_of (sender_with true 1 1 0 4) ready) ≡ minus 22
  pub foreign_source : sent_in one_iov (both_of (sender_with true 2 0 0 4) ready) ≡ minus 1
  pub absent_list : sent_in (call_with 0 4090 1 7) (both_of (sender 4) ready) ≡ minus 14
  pub receiver_gone : sent_in one_iov (both_of (sender 4) departed) ≡ minus 3
  pub caller_off : sent_in one_iov (both_of (sender_with false 1 0 0 4) ready) ≡ minus 19
  pub receiver_off : sent_in one_iov (both_of (sender 4) (living false [] [])) ≡ minus 111
  pub no_ring : sent_in one_iov (both_of (sender 4) pageless) ≡ minus 111
  pub iov_pad : sent_in one_iov (both_of (sender_with true 1 0 1 4) ready) ≡ minus 22
  pub long_body : sent_in (call_with 0 16 1 7) (both_of (sender 0xFFFFE1) ready) ≡ minus 22
  pub long_sum : sent_in (call_with 0 16 2 7) (both_of (living true long_memory []) ready) ≡ minus 90
  pub too_big : sent_in one_iov (both_of (sender 17) ready) ≡ minus 90
  pub waits : sent_in one_iov (both_of (sender 4) (receiver 16 [])) ≡ minus 11
  pub waits_again : sent_in one_iov (both_of (sender 4) (receiver 16 ((1, 1) ∷ crowd))) ≡ minus 11
  pub busy : sent_in one_iov (both_of (sender 4) (receiver 16 crowd)) ≡ minus 16
  pub absent_body : cause_of_send one_iov (both_of (sender 4) ready ∷ both_of (sender 4) ready ∷ both_of pageless ready ∷ both_of pageless ready ∷ []) ≡ minus 14
  pub sent : sent_in one_iov (both_of (sender 4) ready) ≡ Number (pos 4)
  pub sent_as_wildcard : sent_in one_iov (both_of (sender_with true wildcard 0 0 4) ready) ≡ Number (pos 4)
