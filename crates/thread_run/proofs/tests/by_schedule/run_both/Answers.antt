use Rattle.std.proofs.Common.{◌≡◌, IsTrue, List, sym, ap, subst, ◌∙◌}
use Rattle.argo_model.specs.Runs.Script.{Script, Section, is_lawful}
use Rattle.thread_run.specs.Workers.{AllMayWork, AreWorkersOf}
use Rattle.thread_run.proofs.ScriptLaws.{all_may}
use Rattle.thread_run.proofs.TestLaws.{order_after, parts_after}
use Rattle.thread_run.proofs.tests.by_schedule.run_both.Goals as goal

pub workers_of-requires-clause-may : goal.workers_of-requires-clause-may
workers_of-requires-clause-may g c =
    let s = c.args.s.now in
    let lawful = subst (λ (x : Script). IsTrue (is_lawful x)) c.s.view_is c.s.invariant in
    let same : c.as_slice.result.now ≡ s.sections = c.as_slice.ensures ∙ ap (λ (x : Script). x.sections) c.s.view_is in
    subst (λ (ss : List Section). AllMayWork g.A.Plan.facts g.A.Plan.actors ss) (sym same)
    (all_may g.A.Plan.facts g.A.Plan.actors s c.requires.facts c.requires.actors lawful)

pub close-requires-clause-count : goal.close-requires-clause-count
close-requires-clause-count g c =
    let s = c.args.s.now in
    let before = c.in_ok-workers.workers.items in
    let after = c.steps_differ.new.workers.items in
    let same : c.as_slice.result.now ≡ s.sections = c.as_slice.ensures ∙ ap (λ (x : Script). x.sections) c.s.view_is in
    let first : AreWorkersOf before s.sections = subst (λ (ss : List Section). AreWorkersOf before ss) same c.in_ok-workers.ensures in
    parts_after g.A.Ledger.parts c.in_ok-passes.passes.items before after s.sections c.in_ok-passes.ensures.numbers c.in_ok-differs.ensures first
    c.requires.parts

pub close-requires-clause-order : goal.close-requires-clause-order
close-requires-clause-order g c =
    let s = c.args.s.now in
    let before = c.in_ok-workers.workers.items in
    let after = c.steps_differ.new.workers.items in
    let same : c.as_slice.result.now ≡ s.sections = c.as_slice.ensures ∙ ap (λ (x : Script). x.sections) c.s.view_is in
    let first : AreWorkersOf before s.sections = subst (λ (ss : List Section). AreWorkersOf before ss) same c.in_ok-workers.ensures in
    order_after c.in_ok-passes.passes.items before after s.sections c.in_ok-passes.ensures.numbers c.in_ok-differs.ensures first
