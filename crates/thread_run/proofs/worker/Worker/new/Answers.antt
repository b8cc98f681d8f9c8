use Rattle.std.proofs.Common.{◌≤◌, length, vec_capacity, ap, arith}
use Rattle.argo_model.specs.Runs.Script.{Section}
use Rattle.thread_run.proofs.CourseLaws.{begins}
use Rattle.thread_run.proofs.worker.Worker.new.Goals as goal

pub invariant_of-result : goal.invariant_of-result
invariant_of-result g c =
    let exact = c.in_ok-heard.ensures.exact in
    let count = c.len.ensures in
    let same = ap (λ (s : Section). length s.lines) c.part.view_is in
    let enough : length c.args.part.now.lines ≤ vec_capacity c.in_ok-heard.heard = omega (arith, exact, count, same) in
    rw c.in_ok-heard.ensures.items
    (begins g.A.Plan.facts g.A.Plan.actors c.in_ok-vcpu.vcpu c.args.pass c.args.part.now (vec_capacity c.in_ok-heard.heard)
    c.requires.may c.requires.fresh c.in_ok-vcpu.ensures enough)
