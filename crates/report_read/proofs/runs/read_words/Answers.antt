use Rattle.report_read.proofs.ScheduleLaws.{begins, reads_on, repeats, ends_here, no_end}
use Rattle.report_read.proofs.runs.read_words.Goals as goal

pub returns-then-is_of : goal.returns-then-is_of
returns-then-is_of c =
    repeats c.args.text.now c.loop-run.rest.now c.loop-run.runs c.loop-run.last c.loop-run.invariant c.in-Some.run' c.in-Some.after.now c.in-Some.ensures
    c.if-is_of.ensures

pub loop-run-preserved : goal.loop-run-preserved
loop-run-preserved c =
    rw c.in_ok-push.ensures.ok
    (reads_on c.args.text.now c.loop-run.rest.now c.loop-run.runs c.loop-run.last c.loop-run.invariant c.in-Some.run' c.in-Some.after.now c.in-Some.ensures
    c.if-is_of.ensures)

pub returns : goal.returns
returns c =
    ends_here c.args.text.now c.loop-run.rest.now c.loop-run.runs c.loop-run.last c.loop-run.invariant _ c.in_default.ensures c.in-Some-behind.ensures

pub returns-in_default-behind : goal.returns-in_default-behind
returns-in_default-behind c =
    no_end c.args.text.now c.loop-run.rest.now c.loop-run.runs c.loop-run.last c.loop-run.invariant c.in_default.ensures c.in_default-behind.ensures
