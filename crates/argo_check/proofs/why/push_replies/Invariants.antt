-- The replies so far were added.
use Rattle.std.proofs.Common.{◌≡◌, ◌++◌, take, flat_map}
use Rattle.argo_check.specs.Why.{shown_reply}
use Rattle.argo_check.proofs.why.push_replies.Given as goal

abbrev pub invariant-loop-line : goal.invariant-loop-line
invariant-loop-line l = l.text ≡ l.fn.text ++ flat_map (shown_reply l.place) (take l.line-index l.done)
