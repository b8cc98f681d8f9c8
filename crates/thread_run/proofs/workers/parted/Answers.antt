use Rattle.thread_run.proofs.WorkerLaws.{part_next}
use Rattle.thread_run.proofs.workers.parted.Goals as goal

pub loop-worker-preserved : goal.loop-worker-preserved
loop-worker-preserved g c =
    let so_far = c.loop-worker.invariant in
    let e = c.in_ok-pass.ensures in
    rw (c.in_ok-push.ensures.items, c.in_ok-push-2.ensures.ok)
    (part_next c.loop-worker.passes.items c.loop-worker.yielded c.loop-worker.heard c.in_ok-pass.pass c.in-Some.worker c.in_ok-pass.lines
    so_far.0 so_far.1 e.number e.heard)
