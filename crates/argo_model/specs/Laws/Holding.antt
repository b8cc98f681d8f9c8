-- What a clean ring holds after the steps of a run.
use Rattle.std.specs.Prelude.{◌≡◌, ◌≤◌, List, length, drop}
use Rattle.argo_model.specs.Rules.Holds.{Holds}
use Rattle.argo_model.specs.Rules.Matches.{RingAt, paged_at}
use Rattle.argo_model.specs.Rules.RingBytes.{rx_word, slots_of}
use Rattle.argo_model.specs.Laws.RingNames.{name_of}
use Rattle.argo_model.specs.Laws.Taken.{accepted_by, taken_from}
use Rattle.argo_model.specs.Laws.Transitions.{Transition}

-- no more was taken than was accepted; the ring's untaken messages are those that it accepted and its owner has not taken, in
-- their order; and its slots hold them, whole, between the rx word's place and the hypervisor's
pub record HoldsUntaken (transitions : List Transition) (at : RingAt) : Type 0 where
  pub no_more_taken : taken_from (name_of at) transitions ≤ length (accepted_by (name_of at) transitions)
  pub untaken : at.ring.untaken ≡ drop (taken_from (name_of at) transitions) (accepted_by (name_of at) transitions)
  pub held : Holds (slots_of at.live.bytes at.ring) at.ring.len (rx_word (paged_at at).own) at.ring.tx at.ring.untaken
