use Rattle.std.proofs.Common.{rules}
use Rattle.argo_model.specs.Runs.Report.{domain_text}
use Rattle.report_text.proofs.WroteLemmas.{Wrote-one_more, Wrote-stop_in}
use Rattle.report_text.proofs.report.write_domains.Goals as goal

pub returns-in_err-write_domain : goal.returns-in_err-write_domain
returns-in_err-write_domain g c =
    Wrote-stop_in (domain_text c.args.version) c.args.all.now c.loop-domain-test.true c.domain-item.is c.loop-domain.invariant
    c.from_residual.result _ c.in_err-write_domain.was (search rules) c.write_domain.ensures

pub loop-domain-preserved : goal.loop-domain-preserved
loop-domain-preserved g c =
    Wrote-one_more (domain_text c.args.version) c.args.all.now c.loop-domain-test.true c.domain-item.is c.loop-domain.invariant c.in_ok-write_domain.ensures
