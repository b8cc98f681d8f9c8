use Rattle.std.proofs.Common.{◌≡◌, ◌<◌, length, get_or, ap, ◌∙◌, arith}
use Rattle.std.proofs.lemmas.Iterator.Adapters.{YieldsList-from_vec}
use Rattle.std.proofs.lemmas.Iterator.Consumers.{YieldsList-turn}
use Rattle.shared_steps.specs.Passes.{Carried}
use Rattle.thread_run.proofs.WorkerLaws.{worker_next}
use Rattle.thread_run.proofs.workers.workers_of.Goals as goal

pub loop-pass-preserved : goal.loop-pass-preserved
loop-pass-preserved g c =
    let passes = c.args.passes in
    let taken = c.loop-pass.yielded in
    let pass = c.in-Some.pass in
    let gives = c.into_iter-pass-iterator.ensures.into_iter_gives in
    let t = YieldsList-turn (YieldsList-from_vec passes.items gives.0 (gives.1 ∙ passes.ok.0)) taken c.loop-pass.pass-iterator c.loop-pass.yielded_by c.next.result c.next.new.self pass c.in-Some.is c.next.ensures.steps in
    let count = c.requires.count in
    let inside = t.0 in
    let below : length taken < length c.args.parts.now = omega (arith, inside, count) in
    let fresh = t.1 ∙ c.requires.fresh (length taken) pass t.0 in
    let number : pass.tally.vcpu ≡ length taken = ap (λ (p : Carried). p.tally.vcpu) fresh in
    let section = c.index-parts-place.result in
    let here : section ≡ get_or c.args.parts.now pass.tally.vcpu section = cc in
    let so_far = c.loop-pass.invariant in
    let e = c.in_ok-new.ensures in
    rw c.in_ok-push.ensures.items
    (worker_next c.args.parts.now taken pass c.loop-pass.workers.items c.in_ok-new.field-0 section
    so_far.0 so_far.1 below number here e.part e.number)
