use Rattle.argo_check.proofs.ReplayLaws.{can_go, gone_on, all_replayed}
use Rattle.argo_check.proofs.why.walk_through.Goals as goal

pub make_run-requires-clause-can : goal.make_run-requires-clause-can
make_run-requires-clause-can c =
    can_go c.args.scripts.now c.args.runs.now c.loop-run.run-index _ c.loop-run.walk.machine c.loop-run-test.true c.loop-run.invariant.0 c.loop-run.invariant.1
    c.requires

pub loop-run-preserved : goal.loop-run-preserved
loop-run-preserved c =
    let ok = c.in_ok-make_run.ensures in
    let h =
    gone_on c.args.scripts.now c.args.runs.now c.loop-run.run-index _ c.loop-run.walk.machine c.loop-run-test.true c.loop-run.invariant.0 c.loop-run.invariant.1
    c.make_run.new.self.machine ok.goes in (h.0, h.1, ok.walk)

pub returns-clause-replayed : goal.returns-clause-replayed
returns-clause-replayed c =
    all_replayed c.args.scripts.now c.args.runs.now c.loop-run.run-index c.loop-run.walk.machine c.loop-run-test.false c.loop-run.invariant.0 c.loop-run.invariant.1
    c.requires
