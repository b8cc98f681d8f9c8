use Rattle.std.proofs.Common.{arith}
use Rattle.audit.specs.First.{places}
use Rattle.audit.specs.Heard.{texts_at}
use Rattle.audit.proofs.FirstLaws.{found_at, not_at, nowhere}
use Rattle.audit.proofs.heard.lines_texts.Goals as goal

pub returns-then-is_some : goal.returns-then-is_some
returns-then-is_some c =
    found_at (texts_at c.args.threads.now c.args.machine.now) (places c.args.threads.now c.args.machine.now) c.loop-at.at c.in_ok-found.found c.loop-at.invariant (cc (c.in_ok-found.ensures)) (cc) (omega arith)

pub loop-at-preserved : goal.loop-at-preserved
loop-at-preserved c = not_at (texts_at c.args.threads.now c.args.machine.now) c.loop-at.at c.in_ok-found.found c.loop-at.invariant (cc (c.in_ok-found.ensures)) (cc)

pub returns : goal.returns
returns c =
    nowhere (texts_at c.args.threads.now c.args.machine.now) (places c.args.threads.now c.args.machine.now) c.loop-at.at c.loop-at.invariant (omega arith) (omega arith)
