use Rattle.std.proofs.Common.{◌∙◌}
use Rattle.argo_check.proofs.ReplayLaws.{open_in, goes_on}
use Rattle.argo_check.proofs.why.Walk.make_run.Goals as goal

pub make_step-requires-clause-open : goal.make_step-requires-clause-open
make_step-requires-clause-open c =
    open_in c.args.self.now.machine c.args.run c.loop.self.machine.script c.loop.self.machine.schedule c.loop.counter c.requires.can
    c.loop.invariant.0 c.loop.invariant.1 c.loop-test.true

pub loop-preserved : goal.loop-preserved
loop-preserved c =
    let ok = c.in_ok-make_step.ensures in (
      ok.script ∙ c.loop.invariant.0,
      goes_on c.args.self.now.machine.schedule c.loop.self.machine.schedule c.make_step.new.self.machine.schedule c.args.run.vcpu c.loop.counter c.loop.invariant.1 ok.schedule,
      ok.walk,
    )
