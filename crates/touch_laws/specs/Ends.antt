-- What the end of a domain leaves the same.
use Rattle.std.specs.Prelude.{◌≡◌, ℕ}
use Rattle.argo_model.specs.Rules.Destroy.{gone_domain, reset_live}
use Rattle.argo_model.specs.Rules.State.{State, change_domain, change_life}

-- two states that are the same after the domain has ended, and after it is reset
pub record EndSame (d : ℕ) (s t : State) : Type 0 where
  pub gone : change_domain t d gone_domain ≡ change_domain s d gone_domain
  pub reset : change_domain t d (change_life reset_live) ≡ change_domain s d (change_life reset_live)
