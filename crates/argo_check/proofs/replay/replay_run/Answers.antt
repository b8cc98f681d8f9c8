use Rattle.std.proofs.Common.{◌≡◌, false, sym, subst, ◌∙◌}
use Rattle.std.proofs.lemmas.Bool.{false≢true}
use Rattle.argo_model.specs.Runs.Script.{Script}
use Rattle.argo_model.specs.Runs.Run.{run, is_open}
use Rattle.argo_check.proofs.ReplayLaws.{stops_in, goes_on, open_where}
use Rattle.argo_check.proofs.replay.replay_run.Goals as goal

pub returns-then-finished : goal.returns-then-finished
returns-then-finished c =
    let m = c.loop.machine in
    let P : Script → Type 0 = λ t. is_open (run t m.schedule) c.args.run.vcpu ≡ false in
    stops_in c.args.machine.now.script c.args.machine.now.schedule m.schedule c.args.run.vcpu c.loop.counter c.args.run.count c.loop.invariant.1 c.loop-test.true
    (subst P c.loop.invariant.0 (c.finished.ensures.0 c.if-finished.true))

pub step-requires : goal.step-requires
step-requires c = open_where _ (λ none. false≢true (sym c.if-finished.false ∙ c.finished.ensures.1 none))

pub loop-preserved : goal.loop-preserved
loop-preserved c =
    let ok = c.in_ok-step.ensures.ok in (
      ok.script ∙ c.loop.invariant.0,
      goes_on c.args.machine.now.schedule c.loop.machine.schedule c.step.new.self.schedule c.args.run.vcpu c.loop.counter c.loop.invariant.1 ok.schedule,
    )
