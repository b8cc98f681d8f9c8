use Rattle.argo_run.specs.Outside.{writing}
use Rattle.argo_run.proofs.TextLaws.{picked}
use Rattle.argo_run.proofs.threads.run_beside.Goals as goal

pub returns-then-len-lt-LEAST_SECTIONS-clause-ends : goal.returns-then-len-lt-LEAST_SECTIONS-clause-ends
returns-then-len-lt-LEAST_SECTIONS-clause-ends g c =
    picked 0 c.args.scripts (writing g.K.Sink.faults g.K.Sink.written c.args.out.now c.run_picked.new.out) c.run_picked.result c.run_picked.ensures.ends
