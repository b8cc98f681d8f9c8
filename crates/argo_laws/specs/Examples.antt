-- Worked examples of what ends a notice and what leaves it, of what sets and clears a flag, and of the names of rings: few steps each,
-- in a small state.
use Rattle.std.specs.Prelude.{◌≡◌, ℕ, Bool, true, false, List, [], ◌∷◌, codes, fold, replicate, is_some, IsSomeAnd, IsTrue, Some, None}
use Rattle.argo_base.specs.Match.{key_of, wildcard}
use Rattle.argo_model.specs.declared.action.Action.{Action}
use Rattle.argo_model.specs.declared.action.Action.TheVariants.{Register, Unregister, Deliver, Sweep, Query, Look, Destroy, Reset, Create}
use Rattle.argo_model.specs.declared.action.Load.TheVariants.{Body}
use Rattle.argo_model.specs.declared.scripts.Actor.{Actor}
use Rattle.argo_model.specs.declared.scripts.Actor.TheVariants.{Vcpu, Control}
use Rattle.argo_model.specs.Laws.Flags.{SetsFlag, ClearsFlag}
use Rattle.argo_model.specs.Laws.NoticeEnds.{has_flag, EndsLegally}
use Rattle.argo_model.specs.Laws.RingNames.{RingName, standing, notice_on}
use Rattle.argo_model.specs.Laws.Transitions.{Transition}
use Rattle.argo_model.specs.Rules.Act.{act}
use Rattle.argo_model.specs.Rules.State.{State, Domain, Live, Ring}

-- ---- the states

-- a domain that is on, with this life
abbrev pub living : (pages : ℕ) → Live → Domain
living pages live = record { on = true; pages = pages; generation = 1; life = Some live }

-- a ring of 64 slot bytes on page 0, which is read up to place 0 and written up to this one; domain 2 waits there for 20 bytes. It is
-- dirty, so that nothing is said of what its slots hold
abbrev pub waited_ring : ℕ → Ring
waited_ring tx = record { serial = 1; len = 64; pages = 0 ∷ []; tx = tx; clean = false; untaken = []; notices = (2, 20) ∷ [] }

-- domain 1 has that ring under port 5 and a partner; and domain 2, whose flag is this, has nothing
abbrev pub waiting_at : (tx partner : ℕ) (flag : Bool) → State
waiting_at tx partner flag =
    (1, living 1 (record { bytes = replicate 4096 0; flag = false; next_serial = 2; rings = (key_of 5 partner, waited_ring tx) ∷ [] }))
    ∷ (2, living 0 (record { bytes = []; flag = flag; next_serial = 1; rings = [] }))
    ∷ []

-- the ring is empty, and for every domain, and no flag is set
abbrev pub waiting : State
waiting = waiting_at 0 wildcard false

-- the ring has 32 free bytes, which are too few for a body of 20
abbrev pub crowded : State
crowded = waiting_at 32 wildcard false

-- the ring is for domain 2 alone
abbrev pub waiting_alone : State
waiting_alone = waiting_at 0 2 false

-- the flag of domain 2 is set
abbrev pub told : State
told = waiting_at 0 wildcard true

abbrev pub the_ring : RingName
the_ring = record { owner = 1; generation = 1; serial = 1 }

-- ---- the steps

-- a section's first step, which performs this action
abbrev pub acted : Actor → Action → State → Transition
acted actor a s =
    record {
      actor = actor;
      step = record { vcpu = 0; line = 1; action = a; outcome = (act actor a s).outcome; reply = None };
      before = s;
      after = (act actor a s).state;
    }

-- by the ring's owner, by the domain that waits, and by the control section
abbrev pub owner_does : Action → State → Transition
owner_does a s = acted (Vcpu 1 1) a s

abbrev pub waiter_does : Action → State → Transition
waiter_does a s = acted (Vcpu 2 1) a s

abbrev pub control_does : Action → State → Transition
control_does a s = acted Control a s

-- domain 1 registers the ring anew, with this length
abbrev pub register_anew : ℕ → Action
register_anew len = Register 5 wildcard len (0 ∷ []) false

-- domain 2 sends four bytes to the ring
abbrev pub send : Action
send = Deliver 9 1 5 7 (Body (codes "ping"))

-- ---- notices

-- the notice ends legally in the step, and its domain's flag is this afterwards
pub record Ends (flag : Bool) (t : Transition) : Type 0 where
  pub stood : notice_on t.before the_ring 2 ≡ Some 20
  pub is_gone : notice_on t.after the_ring 2 ≡ None
  pub legally : IsSomeAnd (standing t.before the_ring) (λ at. EndsLegally t at 2 20)
  pub flag_after : has_flag t.after 2 ≡ flag

-- a sweep that fits and a registration that is too short signal the domain; no other end does
pub record NoticesEnd : Type 0 where
  pub sweep_fits : Ends true (owner_does (Sweep 0) waiting)
  pub too_short : Ends true (owner_does (register_anew 48) waiting)
  pub question_finds_room : Ends false (waiter_does (Query 1 5 20) waiting)
  pub unregistered : Ends false (owner_does (Unregister 5 wildcard) waiting)
  pub owner_destroyed : Ends false (control_does (Destroy 1) waiting)
  pub owner_reset : Ends false (control_does (Reset 1) waiting)
  pub domain_destroyed : Ends false (control_does (Destroy 2) waiting)
  pub domain_reset : Ends false (control_does (Reset 2) waiting)
  pub partner_destroyed : Ends false (control_does (Destroy 2) waiting_alone)
  pub partner_reset : Ends false (control_does (Reset 2) waiting_alone)

-- the notice stands after the step with this size, and nobody is signalled for it
pub record Stays (size : ℕ) (t : Transition) : Type 0 where
  pub stands : notice_on t.after the_ring 2 ≡ Some size
  pub is_clear : has_flag t.after 2 ≡ false

-- near to those, a notice stands: a sweep and a question that find no room, where the question may raise it; a registration that is
-- long enough; and a message of its domain that is accepted
pub record NoticesStay : Type 0 where
  pub sweep_finds_none : Stays 20 (owner_does (Sweep 0) crowded)
  pub question_raises : Stays 30 (waiter_does (Query 1 5 30) crowded)
  pub question_keeps : Stays 20 (waiter_does (Query 1 5 17) crowded)
  pub long_enough : Stays 20 (owner_does (register_anew 80) waiting)
  pub accepted : Stays 20 (waiter_does send waiting)

-- ---- flags

pub record Sets (d : ℕ) (t : Transition) : Type 0 where
  pub was_clear : has_flag t.before d ≡ false
  pub is_set : has_flag t.after d ≡ true
  pub legally : SetsFlag t d

pub record FlagsAreSet : Type 0 where
  pub accepted : Sets 1 (waiter_does send waiting)
  pub sweep_fits : Sets 2 (owner_does (Sweep 0) waiting)
  pub too_short : Sets 2 (owner_does (register_anew 48) waiting)

pub record Clears (d : ℕ) (t : Transition) : Type 0 where
  pub was_set : has_flag t.before d ≡ true
  pub is_clear : has_flag t.after d ≡ false
  pub legally : ClearsFlag t d

pub record FlagsAreCleared : Type 0 where
  pub look : Clears 2 (waiter_does Look told)
  pub destroyed : Clears 2 (control_does (Destroy 2) told)
  pub reset : Clears 2 (control_does (Reset 2) told)

-- ---- names

-- the state after steps, one after another
abbrev pub all_acted : List (Actor × Action) → State → State
all_acted steps s = fold (λ u (step : Actor × Action). (act step.0 step.1 u).state) s steps

-- none stands under the name of the ring that stood, and a ring of domain 1 stands under this name
pub record IsNamedAnew (generation serial : ℕ) (s : State) : Type 0 where
  pub old_is_gone : standing s the_ring ≡ None
  pub new_stands : IsTrue (is_some (standing s (record { owner = 1; generation = generation; serial = serial })))

-- a ring that ended and is registered again under its key has another name, by its serial or by its owner's generation; one that stands
-- and is registered anew keeps its name
pub record NamesGoOn : Type 0 where
  pub unregistered : IsNamedAnew 1 2 (all_acted ((Vcpu 1 1, Unregister 5 wildcard) ∷ (Vcpu 1 1, register_anew 64) ∷ []) waiting)
  pub owner_reset : IsNamedAnew 1 2 (all_acted ((Control, Reset 1) ∷ (Vcpu 1 1, register_anew 64) ∷ []) waiting)
  pub owner_created : IsNamedAnew 2 1 (all_acted ((Control, Destroy 1) ∷ (Control, Create 1) ∷ (Vcpu 1 2, register_anew 64) ∷ []) waiting)
  pub still_stands : IsTrue (is_some (standing (all_acted ((Vcpu 1 1, register_anew 48) ∷ []) waiting) the_ring))
