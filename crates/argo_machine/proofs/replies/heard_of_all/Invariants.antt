use Rattle.std.proofs.Common.{◌≡◌, map}
use Rattle.std.specs.List.{range_with_len}
use Rattle.argo_machine.specs.Replies.{heard_among}
use Rattle.argo_machine.proofs.replies.heard_of_all.Given as goal

abbrev pub invariant-loop-v : goal.invariant-loop-v
invariant-loop-v l = l.heard ≡ map (heard_among l.done l.steps) (range_with_len 0 l.v)
