-- A ring is registered where it may stand on its pages.
use Rattle.std.specs.Prelude.{ℕ, not, List}
use Rattle.argo_base.specs.declared.errno.Errno.TheVariants.{Inval}
use Rattle.argo_base.specs.declared.ring_key.RingKey.{RingKey}
use Rattle.argo_model.specs.Rules.State.{Live}
use Rattle.argo_model.specs.Rules.Effects.{Change, refuse_if}
use Rattle.argo_model.specs.Rules.Register.{are_free_for, own_ring, register_allowed, register_new}

-- a new one
abbrev pub new_if_free : Live → RingKey → ℕ → List ℕ → Change Live
new_if_free live key len pages = refuse_if (not (are_free_for live key pages)) Inval (register_new live key len pages)

-- or the one that stands there
abbrev pub anew_if_free : Live → RingKey → ℕ → List ℕ → Change Live
anew_if_free live key len pages =
    refuse_if (not (are_free_for live key pages)) Inval (register_allowed live key len pages (own_ring live key))
