use Rattle.std.proofs.Common.{rules}
use Rattle.argo_model.specs.Runs.Report.{ring_text}
use Rattle.report_text.proofs.WroteLemmas.{Wrote-one_more, Wrote-stop_in}
use Rattle.report_text.proofs.report.write_rings.Goals as goal

pub returns-in_err-write_ring : goal.returns-in_err-write_ring
returns-in_err-write_ring g c =
    Wrote-stop_in (ring_text c.args.owner) c.args.all.now c.loop-ring-test.true c.ring-item.is c.loop-ring.invariant
    c.from_residual.result _ c.in_err-write_ring.was (search rules) c.write_ring.ensures

pub loop-ring-preserved : goal.loop-ring-preserved
loop-ring-preserved g c =
    Wrote-one_more (ring_text c.args.owner) c.args.all.now c.loop-ring-test.true c.ring-item.is c.loop-ring.invariant c.in_ok-write_ring.ensures
