use Rattle.std.proofs.Common.{rules}
use Rattle.std.specs.List.{flat_map}
use Rattle.argo_model.specs.Runs.Report.{ring_text}
use Rattle.report_text.proofs.WroteLemmas.{Wrote-then, Wrote-stop}
use Rattle.report_text.proofs.report.write_domain.Goals as goal

pub returns-in_err-write_line : goal.returns-in_err-write_line
returns-in_err-write_line g c =
    Wrote-stop c.from_residual.result (flat_map (ring_text c.args.domain.now.id) c.args.domain.now.rings) _ c.in_err-write_line.was (search rules) c.write_line.ensures

pub returns : goal.returns
returns g c = let rings = rw c.as_slice.ensures at c.write_rings.ensures in Wrote-then c.in_ok-write_line.ensures rings
