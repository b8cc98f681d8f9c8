-- Worked examples of what laws over whole runs speak of: the messages of a ring, why a send has its reply, what sets and clears a
-- flag, how a notice begins and ends, and which outcomes are possible.
use Rattle.std.specs.Prelude.{◌≡◌, ℕ, List, [], ◌∷◌, ◌++◌, replicate, codes, true, IsSomeAnd, slice_get, map, take, pos, neg_ℤ}
use Rattle.std.specs.List.{list_all}
use Rattle.argo_model.specs.declared.line.Line.TheVariants.{Op, Await, Recv}
use Rattle.argo_model.specs.declared.reply.Reply.TheVariants.{Number}
use Rattle.argo_model.specs.Runs.Script.{Script}
use Rattle.argo_model.specs.Laws.Transitions.{Transition, transitions_of, transitions_of_line}
use Rattle.argo_model.specs.Laws.RingNames.{RingName, standing}
use Rattle.argo_model.specs.Laws.Holding.{HoldsUntaken}
use Rattle.argo_model.specs.Laws.Taken.{accepted_by, taken_from}
use Rattle.argo_model.specs.Laws.SendCauses.{Send, reply_of_send}
use Rattle.argo_model.specs.Laws.Flags.{SetsFlag, ClearsFlag}
use Rattle.argo_model.specs.Laws.NoticeEnds.{MakesNotice, EndsLegally}
use Rattle.argo_model.specs.Rules.Possible.{facts_of, is_possible}
use Rattle.argo_model.specs.Rules.Shorts.{short, short_of}
use Rattle.argo_model.specs.Examples.Words.{domain, section, register_lines, send_from, notify_line}
use Rattle.argo_model.specs.Examples.Talk.{ping_and_pong_script}

-- the first ring that a domain made
abbrev pub first_ring_of : ℕ → RingName
first_ring_of d = record { owner = d; generation = 1; serial = 1 }

-- ping and pong, one section after another: each ring accepted one message, and its owner took it
abbrev pub ping_and_pong_transitions : List Transition
ping_and_pong_transitions = transitions_of ping_and_pong_script (replicate 5 0 ++ (replicate 5 1 ++ (replicate 7 2 ++ (replicate 15 3 ++ replicate 8 4))))

pub record PingAndPongIsTaken : Type 0 where
  pub ping : accepted_by (first_ring_of 2) ping_and_pong_transitions ≡ record { src = 1; port = 5; kind = 1; body = codes "ping" } ∷ []
  pub ping_is_taken : taken_from (first_ring_of 2) ping_and_pong_transitions ≡ 1
  pub pong : accepted_by (first_ring_of 1) ping_and_pong_transitions ≡ record { src = 2; port = 6; kind = 2; body = codes "pong" } ∷ []
  pub pong_is_taken : taken_from (first_ring_of 1) ping_and_pong_transitions ≡ 1

-- its sends have the size of their bodies as replies, by the causes
abbrev pub send_of : (caller kind : ℕ) → Send
send_of caller kind = record { caller = caller; a1 = 0x20; a2 = 0x30; a3 = 1; a4 = kind }

pub record PingAndPongHasCauses : Type 0 where
  pub ping : reply_of_send (send_of 1 1) (transitions_of_line 2 4 ping_and_pong_transitions) ≡ Number (pos 4)
  pub pong : reply_of_send (send_of 2 2) (transitions_of_line 3 7 ping_and_pong_transitions) ≡ Number (pos 4)

-- each of its outcomes is one that is possible for the script
abbrev pub PingAndPongIsPossible : Type 0
PingAndPongIsPossible =
    list_all (λ d. is_possible (facts_of ping_and_pong_script) d.actor d.step.action d.step.outcome) ping_and_pong_transitions ≡ true

-- the outcomes of the send of `ping`, as two numbers each: three fetches, and the delivery
abbrev pub PingInShort : Type 0
PingInShort =
    map (λ d. short_of d.step.outcome) (transitions_of_line 2 4 ping_and_pong_transitions) ≡ short 1 16 ∷ short 1 16 ∷ short 1 4 ∷ short 4 4 ∷ []

-- a ring of 48 takes one body, and a second one is to wait; the owner takes the first, and its notify serves the notice
abbrev pub notice_served_script : Script
notice_served_script =
    record {
      version = 1;
      domains = domain 1 2 ∷ domain 2 1 ∷ [];
      sections =
          section 1 (register_lines 5 2 48 1)
          ∷ section 2 (send_from 0x100 2 1 5 16 ++ Op 3 0x20 0x30 1 7 ∷ [])
          ∷ section 1 (Recv 1 48 ∷ notify_line ∷ [])
          ∷ section 2 (Await 1 ∷ [])
          ∷ [];
    }

abbrev pub notice_served_transitions : List Transition
notice_served_transitions = transitions_of notice_served_script (replicate 5 0 ++ (replicate 10 1 ++ (replicate 7 2 ++ replicate 1 3)))

-- the step at a place of the run, counted from 0
abbrev pub AtStep : ℕ → (Transition → Type 0) → Type 0
AtStep k P = IsSomeAnd (slice_get notice_served_transitions k) P

-- the notice of domain 2 on the ring of domain 1 ends legally in the step
abbrev pub EndsNoticeOfTwo : Transition → Type 0
EndsNoticeOfTwo t = IsSomeAnd (standing t.before (first_ring_of 1)) (λ at. EndsLegally t at 2 16)

-- the ring of domain 1 holds, after the first k steps, the messages that it accepted and that its owner has not taken
abbrev pub HoldsAfter : ℕ → Type 0
HoldsAfter k = AtStep k (λ t. IsSomeAnd (standing t.before (first_ring_of 1)) (HoldsUntaken (take k notice_served_transitions)))

pub record NoticeIsServed : Type 0 where
  pub accepted : AtStep 10 (λ t. SetsFlag t 1)
  pub held : HoldsAfter 11
  pub refused : reply_of_send (send_of 2 7) (transitions_of_line 1 4 notice_served_transitions) ≡ Number (neg_ℤ (pos 11))
  pub noted : AtStep 14 (λ t. MakesNotice t (first_ring_of 1) 2)
  pub held_after_the_take : HoldsAfter 20
  pub served : AtStep 20 EndsNoticeOfTwo
  pub signalled : AtStep 20 (λ t. SetsFlag t 2)
  pub looked_at : AtStep 22 (λ t. ClearsFlag t 2)
