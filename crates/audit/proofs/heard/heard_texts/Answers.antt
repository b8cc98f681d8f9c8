use Rattle.std.proofs.Common.{arith}
use Rattle.audit.specs.First.{places}
use Rattle.audit.specs.Heard.{texts_in}
use Rattle.audit.proofs.FirstLaws.{found_at, not_at, nowhere}
use Rattle.audit.proofs.heard.heard_texts.Goals as goal

pub returns-then-is_some : goal.returns-then-is_some
returns-then-is_some c =
    found_at (texts_in c.args.threads.now c.args.machine.now) (places c.args.threads.now c.args.machine.now) c.loop-v.v c.in_ok-found.found c.loop-v.invariant (cc (c.in_ok-found.ensures)) (cc) (omega arith)

pub loop-v-preserved : goal.loop-v-preserved
loop-v-preserved c = not_at (texts_in c.args.threads.now c.args.machine.now) c.loop-v.v c.in_ok-found.found c.loop-v.invariant (cc (c.in_ok-found.ensures)) (cc)

pub returns : goal.returns
returns c =
    nowhere (texts_in c.args.threads.now c.args.machine.now) (places c.args.threads.now c.args.machine.now) c.loop-v.v c.loop-v.invariant (omega arith) (omega arith)
