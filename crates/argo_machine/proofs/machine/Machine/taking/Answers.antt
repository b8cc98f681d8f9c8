use Rattle.std.proofs.Common.{ℕ, List, [], Some, sym, ap, ◌∙◌, subst, arith, map}
use Rattle.argo_model.specs.declared.closing.Run.{Run}
use Rattle.argo_model.specs.declared.closing.DoneLine.{DoneLine}
use Rattle.argo_model.specs.Rules.State.{start_state}
use Rattle.argo_model.specs.Runs.Run.{run}
use Rattle.argo_model.specs.Runs.Final.{schedule_of, no_steps}
use Rattle.argo_machine.specs.Kept.{KeepsCourse}
use Rattle.argo_machine.specs.Machine.{script_of}
use Rattle.argo_machine.proofs.MachineLaws.{world_with, starts_so}
use Rattle.argo_machine.proofs.VcpuLaws.{lawful_bounds, steps_bound}
use Rattle.argo_machine.proofs.machine.Machine.taking.Goals as goal

pub vcpus_of-vcpus-requires-clause-lines : goal.vcpus_of-vcpus-requires-clause-lines
vcpus_of-vcpus-requires-clause-lines g c =
    let m = c.scripts.inside in
    (lawful_bounds (record { version = m.version; domains = m.domains; sections = m.parts }) c.scripts.invariant).0

pub vcpus_of-vcpus-requires-clause-turns : goal.vcpus_of-vcpus-requires-clause-turns
vcpus_of-vcpus-requires-clause-turns g c =
    let m = c.scripts.inside in
    (lawful_bounds (record { version = m.version; domains = m.domains; sections = m.parts }) c.scripts.invariant).1

pub invariant_of-result : goal.invariant_of-result
invariant_of-result g c =
    let m = c.scripts.inside in
    let xs = c.vcpus_of-vcpus.result.items in
    let w = world_with (g.W.Access.told c.in_ok-world.world) (g.W.Access.actors c.in_ok-world.world) (g.W.Access.totals c.in_ok-world.world) in
    let b = c.in_ok-books.books in
    let bound = steps_bound (record { version = m.version; domains = m.domains; sections = m.parts }) c.scripts.invariant in
    let R : List Run → Type 0 = λ rs. KeepsCourse xs w rs b.done.items b.reply_steps.items (run (script_of m.version m.domains xs) (schedule_of rs)) in
    let D : List DoneLine → Type 0 = λ ds. KeepsCourse xs w [] ds b.reply_steps.items (run (script_of m.version m.domains xs) []) in
    let N : List ℕ → Type 0 = λ ns. KeepsCourse xs w [] [] ns (run (script_of m.version m.domains xs) []) in
    subst R (sym c.in_ok-books.ensures.runs) (subst D (sym c.in_ok-books.ensures.done) (subst N (sym c.in_ok-books.ensures.steps)
    (starts_so m.version m.domains xs m.parts w c.vcpus_of-vcpus.ensures
    (c.in_ok-world.ensures.state ∙ ap (λ s. Some (start_state s.domains)) (sym c.scripts.view_is))
    (c.in_ok-world.ensures.actors ∙ ap (λ s. map (λ x. x.actor) s.sections) (sym c.scripts.view_is))
    (c.in_ok-world.ensures.totals ∙ ap (λ s. map (λ x. no_steps) s.sections) (sym c.scripts.view_is))
    (omega (arith, bound)))))

pub returns-clause-left : goal.returns-clause-left
returns-clause-left g c =
    let m = c.scripts.inside in
    let bound = steps_bound (record { version = m.version; domains = m.domains; sections = m.parts }) c.scripts.invariant in
    let are = c.vcpus_of-vcpus.ensures in
    omega (arith, bound, are.left)
