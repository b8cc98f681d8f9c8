use Rattle.argo_check.proofs.ReplayLaws.{stopped, gone_on, replayed, left_open}
use Rattle.argo_check.proofs.replay.replay.Goals as goal

pub returns-then-not-went : goal.returns-then-not-went
returns-then-not-went c =
    stopped c.args.scripts.now c.args.runs.now c.loop-run.run-index _ c.loop-run.machine c.loop-run-test.true c.loop-run.invariant.0 c.loop-run.invariant.1
    (rw c.if-not-went.true at c.in_ok-went.ensures)

pub loop-run-preserved : goal.loop-run-preserved
loop-run-preserved c =
    gone_on c.args.scripts.now c.args.runs.now c.loop-run.run-index _ c.loop-run.machine c.loop-run-test.true c.loop-run.invariant.0 c.loop-run.invariant.1
    c.replay_run.new.machine (rw c.if-not-went.false at c.in_ok-went.ensures)

pub returns-then-all_finished : goal.returns-then-all_finished
returns-then-all_finished c =
    replayed c.args.scripts.now c.args.runs.now c.loop-run.run-index c.loop-run.machine c.loop-run-test.false c.loop-run.invariant.0 c.loop-run.invariant.1 c.if-all_finished.ensures

pub returns-else-all_finished : goal.returns-else-all_finished
returns-else-all_finished c =
    left_open c.args.scripts.now c.args.runs.now c.loop-run.run-index c.loop-run.machine c.loop-run-test.false c.loop-run.invariant.0 c.loop-run.invariant.1 c.if-all_finished.ensures
