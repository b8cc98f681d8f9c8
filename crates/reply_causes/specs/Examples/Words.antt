-- The words in which worked examples of tables are written: small states, whose first domain makes the call.
use Rattle.std.specs.Prelude.{ℕ, ◌-◌, Bool, true, false, List, [], ◌∷◌, ◌++◌, length, replicate, pos, neg_ℤ, Some, None}
use Rattle.argo_base.specs.declared.ring_key.RingKey.{RingKey}
use Rattle.argo_base.specs.Match.{key_of}
use Rattle.argo_model.specs.declared.reply.Reply.{Reply}
use Rattle.argo_model.specs.declared.reply.Reply.TheVariants.{Number}
use Rattle.argo_model.specs.Rules.State.{State, Domain, Ring}
use Rattle.reply_causes.specs.Tables.{Call}

-- one page that begins with these bytes
abbrev pub page_with : List ℕ → List ℕ
page_with bytes = bytes ++ replicate (4096 - length bytes) 0

-- a domain that is alive, on or off, with this memory and these rings
abbrev pub living : Bool → List ℕ → List (RingKey × Ring) → Domain
living on bytes rings =
    record { on = on; pages = 1; generation = 1; life = Some (record { bytes = bytes; flag = false; next_serial = 2; rings = rings }) }

-- one that has no page
abbrev pub pageless : Domain
pageless = living true [] []

-- one that is gone
abbrev pub departed : Domain
departed = record { on = true; pages = 1; generation = 1; life = None }

-- the domains 1 and 2
abbrev pub both_of : Domain → Domain → State
both_of one two = (1, one) ∷ (2, two) ∷ []

-- a ring of 48 slot bytes on page 0, under a port and a partner
abbrev pub small_ring : Ring
small_ring = record { serial = 1; len = 48; pages = 0 ∷ []; tx = 0; clean = true; untaken = []; notices = [] }

abbrev pub ring_for : ℕ → ℕ → RingKey × Ring
ring_for port partner = (key_of port partner, small_ring)

-- a call of domain 1
abbrev pub call_with : (a1 a2 a3 a4 : ℕ) → Call
call_with a1 a2 a3 a4 = record { caller = 1; a1 = a1; a2 = a2; a3 = a3; a4 = a4 }

-- minus the number of an error
abbrev pub minus : ℕ → Reply
minus n = Number (neg_ℤ (pos n))
