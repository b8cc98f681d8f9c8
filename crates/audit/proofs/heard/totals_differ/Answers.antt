use Rattle.std.proofs.Common.{arith}
use Rattle.audit.specs.First.{places}
use Rattle.audit.specs.Heard.{totals_at}
use Rattle.audit.proofs.FirstLaws.{found_at, not_at, nowhere}
use Rattle.audit.proofs.heard.totals_differ.Goals as goal

pub returns-then-is_some : goal.returns-then-is_some
returns-then-is_some c =
    found_at (totals_at c.args.threads.now c.args.machine.now) (places c.args.threads.now c.args.machine.now) c.loop-v.v c.section_totals-found.result c.loop-v.invariant (cc) (cc) (omega arith)

pub loop-v-preserved : goal.loop-v-preserved
loop-v-preserved c = not_at (totals_at c.args.threads.now c.args.machine.now) c.loop-v.v c.section_totals-found.result c.loop-v.invariant (cc) (cc)

pub returns : goal.returns
returns c =
    nowhere (totals_at c.args.threads.now c.args.machine.now) (places c.args.threads.now c.args.machine.now) c.loop-v.v c.loop-v.invariant (omega arith) (omega arith)
