use Rattle.std.proofs.Common.{◌≡◌}
use Rattle.shared_caller.proofs.caller.Caller.unlist_notices.Given as goal

-- the pass is as it was
abbrev pub invariant-loop-notice : goal.invariant-loop-notice
invariant-loop-notice g l = l.pass ≡ l.fn.pass
