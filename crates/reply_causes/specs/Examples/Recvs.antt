-- Worked examples of the table of recv.
use Rattle.std.specs.Prelude.{◌≡◌, ℕ, true, List, [], ◌∷◌, ◌++◌, replicate, codes}
use Rattle.argo_base.specs.Layout.{ring_head_bytes, addr_bytes, message_head_bytes}
use Rattle.argo_model.specs.declared.reply.Reply.{Reply}
use Rattle.argo_model.specs.declared.reply.Reply.TheVariants.{Msg, Empty, Bad, Fault}
use Rattle.argo_model.specs.Rules.State.{State}
use Rattle.reply_causes.specs.RecvCauses.{cause_of_recv, recv_looked}
use Rattle.reply_causes.specs.Examples.Words.{page_with, living, both_of, pageless}

-- domain 1 has on page 0 a ring of 48 with these two words, and at place 0 a message of domain 2 whose length field says this
abbrev pub ring_page : (rx tx len : ℕ) → State
ring_page rx tx len =
    both_of (living true (page_with (ring_head_bytes rx tx (replicate 56 0) ++ (message_head_bytes len (addr_bytes 9 2 0) 7 ++ codes "ping"))) []) pageless

-- a message of 4 bytes stands in it
abbrev pub full : State
full = ring_page 0 32 20

-- the domain has no page
abbrev pub bare : State
bare = both_of pageless pageless

abbrev pub received_in : List State → Reply
received_in states = cause_of_recv 48 (recv_looked 1 0 48 states)

pub record RecvRows : Type 0 where
  pub absent_rx : received_in (bare ∷ []) ≡ Fault
  pub absent_tx : received_in (full ∷ bare ∷ []) ≡ Fault
  pub no_place : received_in (replicate 2 (ring_page 8 32 20)) ≡ Bad
  pub past_the_end : received_in (replicate 2 (ring_page 0 48 20)) ≡ Bad
  pub equal_words : received_in (replicate 2 (ring_page 16 16 20)) ≡ Empty
  pub absent_header : received_in (full ∷ full ∷ bare ∷ []) ≡ Fault
  pub short_length : received_in (replicate 3 (ring_page 0 32 15)) ≡ Bad
  pub long_length : received_in (replicate 3 (ring_page 0 32 33)) ≡ Bad
  pub absent_body : received_in (full ∷ full ∷ full ∷ bare ∷ []) ≡ Fault
  pub absent_when_moved : received_in (full ∷ full ∷ full ∷ full ∷ bare ∷ []) ≡ Fault
  pub received : received_in (replicate 5 full) ≡ Msg 2 9 7 4 (codes "ping")
