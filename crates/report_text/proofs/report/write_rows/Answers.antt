use Rattle.std.proofs.Common.{◌≡◌, ℕ, ◌+◌, ◌-◌, ◌*◌, ◌<◌, ◌≤◌, ◌==◌, length, get_or, take, drop, Ok, sym, ap, ◌∙◌, subst, rules, arith}
use Rattle.std.specs.List.{flat_map, list_all, range_with_len}
use Rattle.std.proofs.lemmas.List.{length-take}
use Rattle.std.proofs.lemmas.List.FromFn.{length-range_with_len, get_or-range_with_len}
use Rattle.argo_model.specs.Runs.Report.{slots_at}
use Rattle.report_text.proofs.RowLaws.{no_text}
use Rattle.report_text.proofs.WroteLemmas.{Wrote-nothing, Wrote-all, Wrote-one_more, Wrote-stop_in}
use Rattle.report_text.specs.Wrote.{Wrote}
use Rattle.report_text.proofs.report.write_rows.Goals as goal

-- the row of a number is at its place among those from another number on
at_place : (a n k : ℕ) → a ≤ k → k < a + n → k ≡ get_or (range_with_len a n) (k - a) k
at_place a n k low high = sym (get_or-range_with_len a n (k - a) k (omega (arith, low, high)) ∙ omega (arith, low))

below : (a n k : ℕ) → a ≤ k → k < a + n → k - a < length (range_with_len a n)
below a n k low high = rw length-range_with_len (omega (arith, low, high))

pub rows_at-requires : goal.rows_at-requires
rows_at-requires g c = omega (arith, c.requires.order, c.requires.inside)

pub returns-then-is_blank : goal.returns-then-is_blank
returns-then-is_blank g c =
    let slots = c.args.slots.now in
    let n = c.args.to - c.args.from in
    let blank = ap (list_all (λ b. b == 0)) (sym c.rows_at.ensures) ∙ sym c.is_blank.ensures ∙ c.if-is_blank.true in
    subst (λ t. Wrote g.K.Sink.written g.K.Sink.faults c.args.out.now c.args.out.now t (Ok tt)) (sym (no_text slots c.args.from n blank)) (Wrote-nothing c.args.out.now)

pub returns-in_err-write_row : goal.returns-in_err-write_row
returns-in_err-write_row g c =
    let slots = c.args.slots.now in
    let a = c.args.from in
    let n = c.args.to - a in
    let k = c.loop-k.k in
    let high : k < a + n = omega (arith, c.loop-k-test.true, c.requires.order) in
    let row = rw c.rows_at-in-loop-k.ensures at c.write_row.ensures in
    Wrote-stop_in (λ k. slots_at slots (32 * k)) (range_with_len a n) (below a n k (omega (arith, c.loop-k.auto.k)) high) (at_place a n k (omega (arith, c.loop-k.auto.k)) high)
    c.loop-k.invariant c.from_residual.result _ c.in_err-write_row.was (search rules) row

pub loop-k-preserved : goal.loop-k-preserved
loop-k-preserved g c =
    let slots = c.args.slots.now in
    let a = c.args.from in
    let n = c.args.to - a in
    let k = c.loop-k.k in
    let high : k < a + n = omega (arith, c.loop-k-test.true, c.requires.order) in
    let row = rw c.rows_at-in-loop-k.ensures at c.in_ok-write_row.ensures in
    let one_more : k - a + 1 ≡ k + 1 - a = omega (arith, c.loop-k.auto.k) in
    subst (λ i. Wrote g.K.Sink.written g.K.Sink.faults c.args.out.now c.write_row.new.out (flat_map (λ k. slots_at slots (32 * k)) (take i (range_with_len a n))) (Ok tt)) one_more
    (Wrote-one_more (λ k. slots_at slots (32 * k)) (range_with_len a n) (below a n k (omega (arith, c.loop-k.auto.k)) high) (at_place a n k (omega (arith, c.loop-k.auto.k)) high)
    c.loop-k.invariant row)

pub returns : goal.returns
returns g c =
    let slots = c.args.slots.now in
    let a = c.args.from in
    let n = c.args.to - a in
    Wrote-all (λ k. slots_at slots (32 * k)) (range_with_len a n)
    (rw length-range_with_len (omega (arith, c.loop-k-test.false))) c.loop-k.invariant

pub write_row-requires : goal.write_row-requires
write_row-requires g c =
    let row = ap length c.rows_at-in-loop-k.ensures in
    let few = length-take 32 (drop (32 * c.loop-k.k) c.args.slots.now) in
    omega (arith, row, few)
