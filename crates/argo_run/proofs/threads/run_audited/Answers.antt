use Rattle.argo_run.specs.Outside.{writing}
use Rattle.argo_run.proofs.TextLaws.{told_audit}
use Rattle.argo_run.proofs.threads.run_audited.Goals as goal

pub returns-in-Ok-audit-clause-ends : goal.returns-in-Ok-audit-clause-ends
returns-in-Ok-audit-clause-ends g c =
    told_audit c.args.scripts.now c.in-Ok.closed c.in-Ok-audit.audited (writing g.K.Sink.faults g.K.Sink.written c.args.out.now c.tell_audited.new.out)
    c.tell_audited.result c.requires c.in-Ok.ensures c.in-Ok-audit.ensures c.tell_audited.ensures.ends
