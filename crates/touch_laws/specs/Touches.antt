-- A state after an act, as the lists see it: where rings stand, and who waits on them.
use Rattle.std.specs.Prelude.{◌≡◌, ℕ, ◌&&◌, Bool, true, false, List, [], ◌∷◌}
use Rattle.std.specs.BTreeMap.{is_at}
use Rattle.argo_base.specs.Match.{id_cmp}
use Rattle.argo_base.specs.declared.ring_key.RingId.{RingId}
use Rattle.argo_model.specs.Rules.Register.{has_number}
use Rattle.argo_model.specs.Rules.State.{State}
use Rattle.domains.specs.ById.{stands, is_noted}

-- the ring and one of the domains
abbrev pub is_touched : RingId → List ℕ → RingId → ℕ → Bool
is_touched id doms x d = has_number doms d && is_at (id_cmp id) x

-- no ring came or went, and no notice
pub record Same (s t : State) : Type 0 where
  pub stands : (x : RingId) → stands t x ≡ stands s x
  pub notices : (x : RingId) (d : ℕ) → is_noted t x d ≡ is_noted s x d

-- no ring came or went, and no notice but one of this domain on the ring
pub record Notes (s t : State) (id : RingId) (dom : ℕ) : Type 0 where
  pub stands : (x : RingId) → stands t x ≡ stands s x
  pub notices : (x : RingId) (d : ℕ) → is_touched id (dom ∷ []) x d ≡ false → is_noted t x d ≡ is_noted s x d

-- every other ring stands where it stood, and so does every notice but those of these domains on the ring, which ended
pub record Touches (s t : State) (id : RingId) (doms : List ℕ) : Type 0 where
  pub stands : (x : RingId) → is_at (id_cmp id) x ≡ false → stands t x ≡ stands s x
  pub notices : (x : RingId) (d : ℕ) → is_touched id doms x d ≡ false → is_noted t x d ≡ is_noted s x d
  pub ended : (d : ℕ) → has_number doms d ≡ true → is_noted t id d ≡ false
