-- The texts so far are written.
use Rattle.std.proofs.Common.{take, Ok}
use Rattle.std.specs.List.{flat_map}
use Rattle.argo_model.specs.Runs.Report.{ring_text}
use Rattle.report_text.specs.Wrote.{Wrote}
use Rattle.report_text.proofs.report.write_rings.Given as goal

abbrev pub invariant-loop-ring : goal.invariant-loop-ring
invariant-loop-ring g l =
    Wrote g.K.Sink.written g.K.Sink.faults l.initial.out l.out (flat_map (ring_text l.owner) (take l.ring-index l.all)) (Ok tt)
