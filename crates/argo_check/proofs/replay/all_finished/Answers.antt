use Rattle.std.proofs.Common.{◌≡◌, refl, ap, ◌∙◌, arith, ⊎_elim}
use Rattle.std.proofs.lemmas.Bool.{false≢true, cases_lt}
use Rattle.argo_model.specs.Runs.Run.{run, is_open}
use Rattle.argo_machine.proofs.RunLaws.{none_unfinished, run-sections}
use Rattle.argo_check.proofs.ReplayLaws.{finished_at}
use Rattle.argo_check.proofs.replay.all_finished.Goals as goal

pub returns-then-not-finished : goal.returns-then-not-finished
returns-then-not-finished c = λ all.
    let m = c.args.machine.now in
    false≢true (c.if-not-finished.ensures.1 (finished_at (run m.script m.schedule).sections c.loop-v.v all))

pub loop-v-preserved : goal.loop-v-preserved
loop-v-preserved c = λ w below.
    let m = c.args.machine.now in
    ⊎_elim (λ less. c.loop-v.invariant w less)
    (λ more.
    let same : w ≡ c.loop-v.v = omega (arith, more, below) in
    ap (is_open (run m.script m.schedule)) same ∙ c.if-not-finished.ensures.0 refl)
    (cases_lt w c.loop-v.v)

pub returns : goal.returns
returns c =
    let m = c.args.machine.now in
    none_unfinished (run m.script m.schedule).sections
    (λ v below. c.loop-v.invariant v (omega (arith, below, c.requires, run-sections m.script m.schedule, c.loop-v-test.false)))
