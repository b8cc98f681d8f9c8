-- The texts so far are written.
use Rattle.std.proofs.Common.{take, Ok}
use Rattle.std.specs.List.{flat_map}
use Rattle.argo_model.specs.Runs.Report.{domain_text}
use Rattle.report_text.specs.Wrote.{Wrote}
use Rattle.report_text.proofs.report.write_domains.Given as goal

abbrev pub invariant-loop-domain : goal.invariant-loop-domain
invariant-loop-domain g l =
    Wrote g.K.Sink.written g.K.Sink.faults l.initial.out l.out (flat_map (domain_text l.version) (take l.domain-index l.all)) (Ok tt)
