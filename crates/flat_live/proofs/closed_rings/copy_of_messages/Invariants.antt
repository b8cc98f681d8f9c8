use Rattle.std.proofs.Common.{◌≡◌, take}
use Rattle.flat_live.proofs.closed_rings.copy_of_messages.Given as goal

abbrev pub invariant-loop-message : goal.invariant-loop-message
invariant-loop-message l = l.copies ≡ take l.message-index l.messages
