-- How many rings the end of a domain comes to.
use Rattle.std.specs.Prelude.{ℕ, ◌≤◌, length}
use Rattle.domain_lists.specs.Lists.{ids_of}
use Rattle.domains.specs.ById.{rings_of}
use Rattle.plain_world.specs.Levels.{Levels}
use Rattle.plain_world.specs.declared.visits.Visits.{Visits}

-- no more visits than the domain had rings, and its lists named
pub record AreFew (d : ℕ) (w : Levels) (v : Visits) : Type 0 where
  pub rings : v.rings ≤ length (rings_of w.state d)
  pub senders : v.senders ≤ length (ids_of w.sends d)
  pub notices : v.notices ≤ length (ids_of w.waits d)
