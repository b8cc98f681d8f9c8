use Rattle.std.proofs.Common.{◌≡◌, IsTrue, List, sym, ap, subst, ◌∙◌}
use Rattle.argo_model.specs.Runs.Script.{Script, Section, is_lawful}
use Rattle.thread_run.specs.Workers.{AllMayWork, AreWorkersOf}
use Rattle.thread_run.proofs.ScriptLaws.{all_may}
use Rattle.thread_run.proofs.WorkerLaws.{same_workers, parts_of}
use Rattle.thread_run.proofs.run.run_world.Goals as goal

pub workers_of-requires-clause-may : goal.workers_of-requires-clause-may
workers_of-requires-clause-may g c =
    let s = c.args.s.now in
    let lawful = subst (λ (x : Script). IsTrue (is_lawful x)) c.s.view_is c.s.invariant in
    let same : c.as_slice.result.now ≡ s.sections = c.as_slice.ensures ∙ ap (λ (x : Script). x.sections) c.s.view_is in
    subst (λ (ss : List Section). AllMayWork g.A.Plan.facts g.A.Plan.actors ss) (sym same)
    (all_may g.A.Plan.facts g.A.Plan.actors s c.requires.facts c.requires.actors lawful)

pub close-requires-clause-count : goal.close-requires-clause-count
close-requires-clause-count g c =
    let s = c.args.s.now in
    let old = c.in_ok-workers.workers.items in
    let new = c.run_all.new.workers.items in
    let same : c.as_slice.result.now ≡ s.sections = c.as_slice.ensures ∙ ap (λ (x : Script). x.sections) c.s.view_is in
    let first : AreWorkersOf old s.sections = subst (λ (ss : List Section). AreWorkersOf old ss) same c.in_ok-workers.ensures in
    let last = same_workers 0 old new s.sections c.run_all.ensures.count c.run_all.ensures.same first in
    parts_of g.A.Ledger.parts c.in_ok-passes.passes.items new s.sections c.in_ok-passes.ensures.numbers last c.requires.parts
