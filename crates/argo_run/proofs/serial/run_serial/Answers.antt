use Rattle.argo_run.specs.declared.words.Way.TheVariants as w
use Rattle.argo_run.specs.Outside.{reading, writing}
use Rattle.argo_run.proofs.EndLaws.{ran, refused}
use Rattle.argo_run.proofs.serial.run_serial.Goals as goal

pub returns-in-Ok-clause-runs : goal.returns-in-Ok-clause-runs
returns-in-Ok-clause-runs g c =
    ran (w.Serial c.args.seed) c.in-Ok.scripts (reading g.S.Source.faults g.S.Source.left c.args.src.now c.read_script.new.src)
    (writing g.K.Sink.faults g.K.Sink.written c.args.out.now c.run_picked.new.out) c.run_picked.result c.in-Ok.ensures.read c.run_picked.ensures.ends

pub returns-in-Err-clause-runs : goal.returns-in-Err-clause-runs
returns-in-Err-clause-runs g c =
    refused (w.Serial c.args.seed) (reading g.S.Source.faults g.S.Source.left c.args.src.now c.read_script.new.src)
    (writing g.K.Sink.faults g.K.Sink.written c.args.out.now c.refuse.new.out) c.in-Err.unread c.refuse.result c.in-Err.ensures.fault c.refuse.ensures.ends
