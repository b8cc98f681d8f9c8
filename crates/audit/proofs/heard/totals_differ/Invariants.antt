-- Nothing differs at the places so far.
use Rattle.std.proofs.Common.{◌≡◌, None}
use Rattle.audit.specs.First.{first_below}
use Rattle.audit.specs.Heard.{totals_at}
use Rattle.audit.proofs.heard.totals_differ.Given as goal

abbrev pub invariant-loop-v : goal.invariant-loop-v
invariant-loop-v l = first_below (totals_at l.threads l.machine) l.v ≡ None
