-- Nothing differs at the places so far.
use Rattle.std.proofs.Common.{◌≡◌, None}
use Rattle.audit.specs.First.{first_below, differ_at}
use Rattle.audit.proofs.lists.numbers_differ.Given as goal

abbrev pub invariant-loop-at : goal.invariant-loop-at
invariant-loop-at l = first_below (differ_at l.ended l.threads l.machine) l.at ≡ None
