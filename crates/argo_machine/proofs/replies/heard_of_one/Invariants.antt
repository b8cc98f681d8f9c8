use Rattle.std.proofs.Common.{◌≡◌, take}
use Rattle.argo_machine.specs.Replies.{heard_among}
use Rattle.argo_machine.proofs.replies.heard_of_one.Given as goal

-- what is heard of the lines so far
abbrev pub invariant-loop-i : goal.invariant-loop-i
invariant-loop-i l = l.heard ≡ heard_among (take l.i l.done) (take l.i l.steps) l.v
