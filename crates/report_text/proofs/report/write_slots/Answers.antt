use Rattle.std.proofs.Common.{◌≡◌, ◌-◌, ◌≤◌, ◌++◌, Ok, ap, ◌∙◌, subst, rules, arith}
use Rattle.report_text.proofs.RowLaws.{rows_then}
use Rattle.report_text.proofs.WroteLemmas.{Wrote-then, Wrote-stop}
use Rattle.argo_model.specs.Runs.Report.{slots_lines}
use Rattle.report_text.specs.Lines.{rows_text}
use Rattle.report_text.specs.Wrote.{Wrote}
use Rattle.report_text.proofs.report.write_slots.Goals as goal

pub returns-in_err-write_rows : goal.returns-in_err-write_rows
returns-in_err-write_rows g c =
    let slots = c.args.slots.now in
    let from = c.blocks-2.from in
    let to = c.min-to.result in
    let rows = c.div_ceil-rows.result in
    let low : from ≤ to = omega (arith, c.blocks-2-test.true, c.min-to.ensures) in
    let high : to ≤ rows = omega (arith, c.min-to.ensures) in
    let text : (rows_text slots 0 from ++ rows_text slots from (to - from)) ++ rows_text slots to (rows - to) ≡ slots_lines slots =
    ap (λ t. t ++ rows_text slots to (rows - to)) (rows_then slots from to low) ∙ rows_then slots to rows high ∙ ap (rows_text slots 0) c.div_ceil-rows.ensures in
    subst (λ t. Wrote g.K.Sink.written g.K.Sink.faults c.args.out.now c.write_rows.new.out t c.from_residual.result) text
    (Wrote-stop c.from_residual.result (rows_text slots to (rows - to)) _ c.in_err-write_rows.was (search rules) (Wrote-then c.blocks-2.invariant.0 c.write_rows.ensures))

pub blocks-2-preserved : goal.blocks-2-preserved
blocks-2-preserved g c =
    let slots = c.args.slots.now in
    let from = c.blocks-2.from in
    let to = c.min-to.result in
    let low : from ≤ to = omega (arith, c.blocks-2-test.true, c.min-to.ensures) in
    let high : to ≤ c.div_ceil-rows.result = omega (arith, c.min-to.ensures) in (
      subst (λ t. Wrote g.K.Sink.written g.K.Sink.faults c.args.out.now c.write_rows.new.out t (Ok tt)) (rows_then slots from to low)
          (Wrote-then c.blocks-2.invariant.0 c.in_ok-write_rows.ensures),
      high,
    )
