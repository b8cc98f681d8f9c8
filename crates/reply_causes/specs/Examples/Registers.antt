-- Worked examples of the tables of register_ring and unregister_ring.
use Rattle.std.specs.Prelude.{◌≡◌, ℕ, Bool, true, false, List, [], ◌∷◌, ◌++◌, replicate, pos}
use Rattle.argo_base.specs.declared.ring_key.RingKey.{RingKey}
use Rattle.argo_base.specs.Layout.{u64_bytes, register_ring_bytes, unregister_ring_bytes}
use Rattle.argo_model.specs.declared.reply.Reply.{Reply}
use Rattle.argo_model.specs.declared.reply.Reply.TheVariants.{Number}
use Rattle.argo_model.specs.Rules.State.{State, Domain, Ring}
use Rattle.reply_causes.specs.Tables.{Call}
use Rattle.reply_causes.specs.RegisterCauses.{cause_of_register, register_looked, cause_of_unregister, unregister_looked}
use Rattle.reply_causes.specs.Examples.Words.{page_with, living, both_of, pageless, departed, ring_for, call_with, minus}

-- a structure for port 5 at 0, and at 16 a list of one page
abbrev pub register_memory : (partner pad len page : ℕ) → List ℕ
register_memory partner pad len page = page_with (register_ring_bytes 5 partner pad len ++ (replicate 4 0 ++ u64_bytes page))

abbrev pub registering : Bool → (partner len page : ℕ) → List (RingKey × Ring) → Domain
registering on partner len page rings = living on (register_memory partner 0 len page) rings

-- the reply of a registration whose three steps find one state
abbrev pub registered_in : Call → State → Reply
registered_in c s = cause_of_register c (register_looked c (replicate 3 s))

-- with no flag, and with FAIL_EXIST
abbrev pub plain : Call
plain = call_with 0 16 1 0

abbrev pub fail_exist : Call
fail_exist = call_with 0 16 1 1

-- domain 1 as it is, and domain 2 on
abbrev pub beside_two : Domain → State
beside_two one = both_of one pageless

pub record RegisterRows : Type 0 where
  pub unknown_flag : registered_in (call_with 0 16 1 2) (beside_two (registering true 2 48 0 [])) ≡ minus 22
  pub absent_structure : registered_in (call_with 4090 16 1 0) (beside_two (registering true 2 48 0 [])) ≡ minus 14
  pub pad : registered_in plain (beside_two (living true (register_memory 2 1 48 0) [])) ≡ minus 22
  pub length : registered_in plain (beside_two (registering true 2 40 0 [])) ≡ minus 22
  pub count : registered_in (call_with 0 16 2 0) (beside_two (registering true 2 48 0 [])) ≡ minus 22
  pub absent_list : registered_in (call_with 0 4090 1 0) (beside_two (registering true 2 48 0 [])) ≡ minus 14
  pub partner_gone : registered_in plain (both_of (registering true 2 48 0 []) departed) ≡ minus 3
  pub caller_off : registered_in plain (beside_two (registering false 2 48 0 [])) ≡ minus 19
  pub partner_off : registered_in plain (both_of (registering true 2 48 0 []) (living false [] [])) ≡ minus 111
  pub exists : registered_in fail_exist (beside_two (registering true 2 48 0 (ring_for 5 2 ∷ []))) ≡ minus 17
  pub no_place : registered_in plain (beside_two (registering true 2 48 0 (replicate 128 (ring_for 6 2)))) ≡ minus 28
  pub absent_page : registered_in plain (beside_two (registering true 2 48 1 [])) ≡ minus 22
  pub page_in_another : registered_in plain (beside_two (registering true 2 48 0 (ring_for 6 2 ∷ []))) ≡ minus 22
  pub registered : registered_in plain (beside_two (registering true 2 48 0 [])) ≡ Number (pos 0)
  pub registered_anew : registered_in plain (beside_two (registering true 2 48 0 (ring_for 5 2 ∷ []))) ≡ Number (pos 0)

-- the reply of a call that ends the ring of port 5 and domain 2, whose two steps find one state
abbrev pub unregistered_in : Call → State → Reply
unregistered_in c s = cause_of_unregister c (unregister_looked c (replicate 2 s))

abbrev pub unregistering : Bool → ℕ → List (RingKey × Ring) → State
unregistering on pad rings = beside_two (living on (page_with (unregister_ring_bytes 5 2 pad)) rings)

abbrev pub alone : Call
alone = call_with 0 0 0 0

pub record UnregisterRows : Type 0 where
  pub second_argument : unregistered_in (call_with 0 1 0 0) (unregistering true 0 (ring_for 5 2 ∷ [])) ≡ minus 22
  pub absent_structure : unregistered_in (call_with 4090 0 0 0) (unregistering true 0 (ring_for 5 2 ∷ [])) ≡ minus 14
  pub pad : unregistered_in alone (unregistering true 1 (ring_for 5 2 ∷ [])) ≡ minus 22
  pub caller_off : unregistered_in alone (unregistering false 0 (ring_for 5 2 ∷ [])) ≡ minus 19
  pub no_ring : unregistered_in alone (unregistering true 0 (ring_for 6 2 ∷ [])) ≡ minus 2
  pub ended : unregistered_in alone (unregistering true 0 (ring_for 5 2 ∷ [])) ≡ Number (pos 0)
