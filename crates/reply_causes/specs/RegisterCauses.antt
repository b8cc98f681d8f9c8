-- Why register_ring and unregister_ring have their replies.
use Rattle.std.specs.Prelude.{ℕ, ◌*◌, Bool, false, not, ◌&&◌, ◌==◌, nat_lt, nat_le, List, length, drop, is_none, unwrap_or, option_map, Option, None, []}
use Rattle.argo_base.specs.declared.errno.Errno.TheVariants.{NoEnt, Srch, Fault as efault, Exist, NoDev, Inval, NoSpc, ConnRefused}
use Rattle.argo_base.specs.declared.ring_key.RingKey.{RingKey}
use Rattle.argo_base.specs.Layout.{u16_at, u32_at, numbers_at}
use Rattle.argo_base.specs.Match.{key_of}
use Rattle.argo_base.specs.Pieces.{pieces}
use Rattle.argo_model.specs.declared.reply.Reply.{Reply}
use Rattle.argo_model.specs.Rules.State.{State, Live, live_of, is_alive, is_on}
use Rattle.argo_model.specs.Rules.Limits.{most_rings}
use Rattle.argo_model.specs.Rules.Register.{has_ring, are_free_for, is_single}
use Rattle.argo_model.specs.Programs.Register.{is_register_head, has_more}
use Rattle.argo_model.specs.Laws.SendCauses.{found, row}
use Rattle.reply_causes.specs.Tables.{Call, last_state, zero_reply}

-- what a call looked at: its structure, and the list of pages, each none where a piece of it was absent when its step looked; and the
-- state at its act
pub record Looked : Type 0 where
  pub head : Option (List ℕ)
  pub list : Option (List ℕ)
  pub state : State

-- what the caller has alive passes a test
abbrev pub has_alive : (Live → Bool) → Call → Looked → Bool
has_alive test c l = unwrap_or (option_map test (live_of l.state c.caller)) false

-- the bytes of the structure, and the pages of the list
abbrev pub head_of : Looked → List ℕ
head_of l = unwrap_or l.head []

abbrev pub pages_of : Call → Looked → List ℕ
pages_of c l = numbers_at (unwrap_or l.list []) c.a3

-- the partner and the key that the structure names
abbrev pub partner_of : Looked → ℕ
partner_of l = u16_at (head_of l) 4

abbrev pub key_named : Looked → RingKey
key_named l = key_of (u32_at (head_of l) 0) (partner_of l)

-- the caller has a ring of this key
abbrev pub has_named : Call → Looked → Bool
has_named c l = has_alive (λ live. has_ring live (key_named l)) c l

-- the caller has the most rings that may stand
abbrev pub has_most : Call → Looked → Bool
has_most c l = has_alive (λ live. nat_le most_rings (length live.rings)) c l

-- the pages are there, differ, and are in no other ring of the caller
abbrev pub has_free : Call → Looked → Bool
has_free c l = has_alive (λ live. are_free_for live (key_named l) (pages_of c l)) c l

-- a flag that is not known; an absent structure; a pad, a length or a count of pages that is not right; an absent list; a single
-- partner that is not alive; a caller that is off; a single partner that is off; a ring that must not stand, and does; no place for
-- one more; pages that may not be used; or the ring is registered
abbrev pub cause_of_register : Call → Looked → Reply
cause_of_register c l =
    row (nat_lt 1 c.a4) Inval (
    row (is_none l.head) efault (
    row (not (is_register_head c.a3 (head_of l))) Inval (
    row (is_none l.list) efault (
    row (is_single (partner_of l) && not (is_alive l.state (partner_of l))) Srch (
    row (not (is_on l.state c.caller)) NoDev (
    row (is_single (partner_of l) && not (is_on l.state (partner_of l))) ConnRefused (
    row (has_named c l && (c.a4 == 1)) Exist (
    row (not (has_named c l) && has_most c l) NoSpc (
    row (not (has_free c l)) Inval zero_reply)))))))))

-- an argument that the call does not take; an absent structure; a pad; a caller that is off; no such ring; or the ring ends
abbrev pub cause_of_unregister : Call → Looked → Reply
cause_of_unregister c l =
    row (has_more c.a2 c.a3 c.a4) Inval (
    row (is_none l.head) efault (
    row (not (u16_at (head_of l) 6 == 0)) Inval (
    row (not (is_on l.state c.caller)) NoDev (
    row (not (has_named c l)) NoEnt zero_reply))))

-- what register_ring looked at in the states at its steps
abbrev pub register_looked : Call → List State → Looked
register_looked c states =
    record {
      head = found c.caller (pieces c.a1 12) states;
      list = found c.caller (pieces c.a2 (8 * c.a3)) (drop (length (pieces c.a1 12)) states);
      state = last_state states;
    }

-- and unregister_ring, which has no list
abbrev pub unregister_looked : Call → List State → Looked
unregister_looked c states =
    record { head = found c.caller (pieces c.a1 8) states; list = None; state = last_state states }
