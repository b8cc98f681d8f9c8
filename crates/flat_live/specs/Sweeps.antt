-- The next ring to be swept, as a walk over the rings finds it.
use Rattle.std.specs.Prelude.{ℕ, nat_lt, if◌then◌else◌, Option, Some, None}
use Rattle.argo_base.specs.declared.ring_key.RingKey.{RingKey}
use Rattle.argo_model.specs.Rules.State.{Ring}

-- a ring's key and its serial
abbrev pub numbered : RingKey × Ring → RingKey × ℕ
numbered e = (e.0, e.1.serial)

-- of the best so far and a ring that comes to it, the one with the lesser serial
abbrev pub lesser : Option (RingKey × ℕ) → RingKey × ℕ → Option (RingKey × ℕ)
lesser None e = Some e
lesser (Some b) e = if nat_lt e.1 b.1 then Some e else Some b

-- the same, where a ring counts only if its serial is above a number
abbrev pub nearer : ℕ → Option (RingKey × ℕ) → RingKey × ℕ → Option (RingKey × ℕ)
nearer after best e = if nat_lt after e.1 then lesser best e else best
