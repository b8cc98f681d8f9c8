use Rattle.std.proofs.Common.{arith}
use Rattle.audit.specs.First.{differ_at, places}
use Rattle.audit.proofs.FirstLaws.{found_at, not_at, nowhere}
use Rattle.audit.proofs.lists.bytes_differ.Goals as goal

pub returns-then-is_some : goal.returns-then-is_some
returns-then-is_some c =
    found_at (differ_at c.args.ended c.args.threads.now c.args.machine.now) (places c.args.threads.now c.args.machine.now) c.loop-at.at c.differ-found.result c.loop-at.invariant (cc) (cc) (omega arith)

pub loop-at-preserved : goal.loop-at-preserved
loop-at-preserved c = not_at (differ_at c.args.ended c.args.threads.now c.args.machine.now) c.loop-at.at c.differ-found.result c.loop-at.invariant (cc) (cc)

pub returns : goal.returns
returns c =
    nowhere (differ_at c.args.ended c.args.threads.now c.args.machine.now) (places c.args.threads.now c.args.machine.now) c.loop-at.at c.loop-at.invariant (omega arith) (omega arith)
