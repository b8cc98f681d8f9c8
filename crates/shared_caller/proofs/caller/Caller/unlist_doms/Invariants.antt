use Rattle.std.proofs.Common.{◌≡◌}
use Rattle.shared_caller.proofs.caller.Caller.unlist_doms.Given as goal

-- the pass is as it was
abbrev pub invariant-loop-dom : goal.invariant-loop-dom
invariant-loop-dom g l = l.pass ≡ l.fn.pass
