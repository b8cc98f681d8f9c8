use Rattle.std.proofs.Common.{◌≤◌, length, vec_capacity, ap, rules}
use Rattle.thread_run.specs.Worker.{Work}
use Rattle.thread_run.proofs.CourseLaws.{heard_out}
use Rattle.thread_run.proofs.worker.Worker.into_heard.Goals as goal

pub returns-clause-number : goal.returns-clause-number
returns-clause-number g c = ap (λ (x : Work). x.number) c.self.view_is

pub returns-clause-heard : goal.returns-clause-heard
returns-clause-heard g c =
    let w = c.self.inside in
    let past : length w.vcpu.part.lines ≤ w.vcpu.done = search rules in
    rw (← c.self.view_is, c.from_vec.ensures)
    (heard_out g.A.Plan.facts g.A.Plan.actors w.vcpu w.pass w.heard.items (vec_capacity w.heard) c.self.invariant past)
