use Rattle.std.proofs.Common.{◌≡◌, [], replicate, Some}
use Rattle.guest_pages.proofs.private.Private.new.Given as goal

abbrev pub invariant-loop : goal.invariant-loop
invariant-loop l = l.slots.items ≡ replicate l.counter (Some [])
