-- Rings and notices of a domain that another had with it, as they end one ring after another.
use Rattle.std.specs.Prelude.{◌≡◌, ℕ, ◌<◌, ◌≤◌, ◌==◌, false, Some, ◌⊎◌}
use Rattle.std.specs.List.Sorted.{IsStrictlySortedBy}
use Rattle.std.specs.Map.{keys_of}
use Rattle.argo_base.specs.declared.ring_key.RingKey.{RingKey}
use Rattle.argo_base.specs.Match.{key_cmp}
use Rattle.argo_base.specs.Notices.{withdrawn}
use Rattle.argo_model.specs.Rules.Destroy.{live_without}
use Rattle.argo_model.specs.Rules.Register.{own_ring}
use Rattle.argo_model.specs.Rules.State.{Ring, Live}

-- a ring is not for the domain alone, and has no notice of it
pub record IsForgotten (d : ℕ) (key : RingKey) (r : Ring) : Type 0 where
  pub partner : (key.partner == d) ≡ false
  pub notices : withdrawn r.notices d ≡ r.notices

-- what the domain had with one ring has ended
pub record Forgot (d : ℕ) (key : RingKey) (old new : Live) : Type 0 where
  pub same : live_without d new ≡ live_without d old
  pub next_serial : new.next_serial ≡ old.next_serial
  pub done : (r : Ring) → own_ring new key ≡ Some r → IsForgotten d key r
  pub others : (q : RingKey) → (q ≡ key → ⊥) → own_ring new q ≡ own_ring old q

-- the ring with the least serial above, which no other has
pub record IsAbove (live : Live) (serial : ℕ) (key : RingKey) (next : ℕ) : Type 0 where
  pub above : serial < next
  pub young : next < live.next_serial
  pub alone : (q : RingKey) (r : Ring) → own_ring live q ≡ Some r → r.serial ≤ next → (r.serial ≤ serial) ⊎ (q ≡ key)

-- no serial is above, and the keys rise
pub record NoneIsAbove (live : Live) (serial : ℕ) : Type 0 where
  pub rising : IsStrictlySortedBy key_cmp (keys_of live.rings)
  pub below : (q : RingKey) (r : Ring) → own_ring live q ≡ Some r → r.serial ≤ serial

-- nothing of the domain is left on the rings up to a serial
abbrev pub AllForgotten : ℕ → ℕ → Live → Type 0
AllForgotten d serial live = (q : RingKey) (r : Ring) → own_ring live q ≡ Some r → r.serial ≤ serial → IsForgotten d q r
