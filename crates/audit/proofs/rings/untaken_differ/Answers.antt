use Rattle.std.proofs.Common.{arith}
use Rattle.audit.specs.First.{places}
use Rattle.audit.specs.Rings.{untaken_at}
use Rattle.audit.proofs.FirstLaws.{found_at, not_at, nowhere}
use Rattle.audit.proofs.rings.untaken_differ.Goals as goal

pub returns-then-is_some : goal.returns-then-is_some
returns-then-is_some c =
    found_at (untaken_at c.args.threads.now c.args.machine.now) (places c.args.threads.now c.args.machine.now) c.loop-at.at c.in_ok-found.found c.loop-at.invariant (cc (c.in_ok-found.ensures)) (cc) (omega arith)

pub loop-at-preserved : goal.loop-at-preserved
loop-at-preserved c = not_at (untaken_at c.args.threads.now c.args.machine.now) c.loop-at.at c.in_ok-found.found c.loop-at.invariant (cc (c.in_ok-found.ensures)) (cc)

pub returns : goal.returns
returns c =
    nowhere (untaken_at c.args.threads.now c.args.machine.now) (places c.args.threads.now c.args.machine.now) c.loop-at.at c.loop-at.invariant (omega arith) (omega arith)
