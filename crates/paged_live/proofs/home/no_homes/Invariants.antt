use Rattle.std.proofs.Common.{◌≡◌, replicate, None}
use Rattle.paged_live.proofs.home.no_homes.Given as goal

abbrev pub invariant-loop : goal.invariant-loop
invariant-loop l = l.homes.items ≡ replicate l.counter None
