use Rattle.std.proofs.Common.{◌≡◌, ℕ, ◌&&◌, not, take}
use Rattle.std.specs.BTreeMap.{is_at}
use Rattle.argo_base.specs.Match.{id_cmp}
use Rattle.argo_base.specs.Notices.{doms_of}
use Rattle.argo_base.specs.declared.ring_key.RingId.{RingId}
use Rattle.argo_model.specs.Rules.Register.{has_number}
use Rattle.domain_lists.specs.Lists.{names, AreNoLonger}
use Rattle.plain_world.proofs.mends.take_off_noted.Given as goal

-- the ring is off the lists of those that waited so far
abbrev pub invariant-loop-dom : goal.invariant-loop-dom
invariant-loop-dom l = record {
  names : (d : ℕ) (x : RingId) → names l.lists d x ≡ (names l.initial.lists d x && not (has_number (doms_of (take l.dom-index l.noted)) d && is_at (id_cmp l.id) x));
  lengths : AreNoLonger l.initial.lists l.lists;
}
