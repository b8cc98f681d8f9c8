-- Which actions a pass may perform in a shared world, and which outcomes they can have there.
use Rattle.std.specs.Prelude.{ℕ, Bool, false, List, slice_get, Option, Some, None}
use Rattle.argo_model.specs.declared.action.Action.{Action}
use Rattle.argo_model.specs.declared.action.Outcome.{Outcome}
use Rattle.argo_model.specs.declared.scripts.Actor.{Actor}
use Rattle.argo_model.specs.Rules.Possible.{Facts, is_possible}
pub use Rattle.shared_ends.specs.Ends.{may_end}

abbrev pub is_possible_for : Facts → Option Actor → Action → Outcome → Bool
is_possible_for f None a o = false
is_possible_for f (Some actor) a o = is_possible f actor a o

-- the outcome is possible for the script, of an action of section v
abbrev pub is_possible_at : Facts → List Actor → ℕ → Action → Outcome → Bool
is_possible_at f actors v a o = is_possible_for f (slice_get actors v) a o
