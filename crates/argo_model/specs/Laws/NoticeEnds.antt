-- How a notice may begin, and how it may end.
use Rattle.std.specs.Prelude.{◌≡◌, ℕ, Bool, false, ◌==◌, ◌⊎◌, IsTrue, Some, None, option_map, unwrap_or}
use Rattle.argo_base.specs.declared.errno.Errno.TheVariants.{Again}
use Rattle.argo_base.specs.declared.ring_key.RingKey.{RingKey}
use Rattle.argo_base.specs.Slots.{fits, is_too_big}
use Rattle.argo_base.specs.Match.{key_of}
use Rattle.argo_model.specs.declared.action.Action.{Action}
use Rattle.argo_model.specs.declared.action.Action.TheVariants.{Register, Unregister, Deliver, Sweep, Query, Destroy, Reset}
use Rattle.argo_model.specs.declared.action.Outcome.TheVariants.{Done, Refused, Swept, Answer as Answered}
use Rattle.argo_model.specs.Rules.State.{State, live_of}
use Rattle.argo_model.specs.Rules.Matches.{RingAt, match_at, paged_at}
use Rattle.argo_model.specs.Rules.RingBytes.{free}
use Rattle.argo_model.specs.Rules.Query.{request, answer_of, sufficient_flag}
use Rattle.argo_model.specs.Programs.Program.{caller_of}
use Rattle.argo_model.specs.Laws.Transitions.{Transition}
use Rattle.argo_model.specs.Laws.RingNames.{RingName, name_of, is_owner, is_there_and, is_met, standing}

-- the flag of a domain that is alive is set
abbrev pub has_flag : State → ℕ → Bool
has_flag s d = unwrap_or (option_map (λ live. live.flag) (live_of s d)) false

-- a sweep of the ring, in which the size fits, and which sets the domain's flag
pub record EndsBySweep (t : Transition) (at : RingAt) (d size : ℕ) : Type 0 where
  pub by_owner : IsTrue (is_owner t.actor (name_of at))
  pub of_ring : t.step.outcome ≡ Swept at.ring.serial
  pub fits : IsTrue (fits (free (paged_at at)) size)
  pub signalled : IsTrue (has_flag t.after d)

-- a registration of the ring with a length for which the size is too big, and which sets the domain's flag
pub record EndsByLength (t : Transition) (at : RingAt) (d size len : ℕ) (key : RingKey) : Type 0 where
  pub by_owner : IsTrue (is_owner t.actor (name_of at))
  pub of_ring : at.key ≡ key
  pub done : t.step.outcome ≡ Done
  pub too_big : IsTrue (is_too_big len size)
  pub signalled : IsTrue (has_flag t.after d)

-- a question of the domain that met the ring and found room
pub record EndsByRoom (t : Transition) (at : RingAt) (d to to_port need : ℕ) : Type 0 where
  pub by_sender : caller_of t.actor ≡ d
  pub is_match : match_at t.before to to_port d ≡ Some at
  pub answered : t.step.outcome ≡ Answered (answer_of (paged_at at) at.key d need)
  pub found_room : (request (paged_at at) d need).flag ≡ sufficient_flag

-- the ring stands no more
abbrev pub RingEnds : Transition → RingAt → Type 0
RingEnds t at = standing t.after (name_of at) ≡ None

-- the destruction or the reset of the domain
pub record DomainEnds (t : Transition) (d dom : ℕ) : Type 0 where
  pub of_domain : dom ≡ d
  pub done : t.step.outcome ≡ Done

-- the ways in which an action may end the notice of a domain with a size on a ring, which stands before the step
abbrev pub EndsBy : Action → Transition → RingAt → ℕ → ℕ → Type 0
EndsBy (Sweep serial) t at d size = EndsBySweep t at d size
EndsBy (Register port partner len pages fail_exist) t at d size = EndsByLength t at d size len (key_of port partner)
EndsBy (Query to to_port need) t at d size = EndsByRoom t at d to to_port need
EndsBy (Unregister port partner) t at d size = RingEnds t at
EndsBy (Destroy dom) t at d size = RingEnds t at ⊎ DomainEnds t d dom
EndsBy (Reset dom) t at d size = RingEnds t at ⊎ DomainEnds t d dom
EndsBy a t at d size = ⊥

-- the step ends a notice of a domain on a ring legally
abbrev pub EndsLegally : Transition → RingAt → ℕ → ℕ → Type 0
EndsLegally t at d size = EndsBy t.step.action t at d size

-- a delivery of the domain that met the ring of this name, and may try again
pub record MakesByDelivery (t : Transition) (name : RingName) (d to to_port : ℕ) : Type 0 where
  pub by_sender : caller_of t.actor ≡ d
  pub of_ring : IsTrue (is_met t.before name to to_port d)
  pub refused : t.step.outcome ≡ Refused Again

-- the request for room in a ring had no flag: it was not too big, found no room, and there was a place for the notice
abbrev pub waits_in : ℕ → ℕ → RingAt → Bool
waits_in d need at = (request (paged_at at) d need).flag == 0

-- a question of the domain that met the ring of this name, and whose request had no flag there
pub record MakesByQuestion (t : Transition) (name : RingName) (d to to_port need : ℕ) : Type 0 where
  pub by_sender : caller_of t.actor ≡ d
  pub of_ring : IsTrue (is_met t.before name to to_port d)
  pub waits : IsTrue (is_there_and (waits_in d need) (match_at t.before to to_port d))

-- the ways in which an action may make the notice of a domain on the ring of a name, or raise it
abbrev pub MakesBy : Action → Transition → RingName → ℕ → Type 0
MakesBy (Deliver port to to_port kind load) t name d = MakesByDelivery t name d to to_port
MakesBy (Query to to_port need) t name d = MakesByQuestion t name d to to_port need
MakesBy a t name d = ⊥

abbrev pub MakesNotice : Transition → RingName → ℕ → Type 0
MakesNotice t name d = MakesBy t.step.action t name d
