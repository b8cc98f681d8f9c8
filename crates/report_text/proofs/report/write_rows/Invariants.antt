-- The rows so far are written.
use Rattle.std.proofs.Common.{Ok, ◌-◌, ◌*◌, take}
use Rattle.std.specs.List.{flat_map, range_with_len}
use Rattle.argo_model.specs.Runs.Report.{slots_at}
use Rattle.report_text.specs.Wrote.{Wrote}
use Rattle.report_text.proofs.report.write_rows.Given as goal

abbrev pub invariant-loop-k : goal.invariant-loop-k
invariant-loop-k g l =
    Wrote g.K.Sink.written g.K.Sink.faults l.initial.out l.out
    (flat_map (λ k. slots_at l.slots (32 * k)) (take (l.k - l.from) (range_with_len l.from (l.to - l.from)))) (Ok tt)
