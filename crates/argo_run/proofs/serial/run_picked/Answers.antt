use Rattle.argo_run.specs.declared.words.Way.TheVariants as w
use Rattle.argo_run.specs.Outside.{writing}
use Rattle.argo_run.proofs.TextLaws.{reported}
use Rattle.argo_run.proofs.serial.run_picked.Goals as goal

pub returns-in-Ok-clause-ends : goal.returns-in-Ok-clause-ends
returns-in-Ok-clause-ends g c =
    reported (w.Serial c.args.seed) c.args.scripts c.in-Ok.shown (writing g.K.Sink.faults g.K.Sink.written c.args.out.now c.report.new.out)
    c.report.result c.in-Ok.ensures c.report.ensures.ends
