use Rattle.std.proofs.Common.{arith}
use Rattle.report_read.proofs.WordLaws.{no_star, no_count, unfit}
use Rattle.report_read.proofs.word.next_run.Goals as goal
use Rattle.report_read.proofs.word.next_run.Goals.{then-count-eq0-via-then-count-eq0, then-count-eq0-via-else-count-eq0+then-number_read-from}

pub returns-in_err-after_star : goal.returns-in_err-after_star
returns-in_err-after_star c =
    rw c.from_residual-in_err-after_star.ensures
    (no_star c.args.text.now c.in_ok-after_space.after_space.now c.in_ok-number_read.after_vcpu.now c.in_ok-number_read.number_read
    c.in_ok-after_space.ensures c.in_ok-number_read.ensures c.in_err-after_star.ensures)

pub returns-in_err-count : goal.returns-in_err-count
returns-in_err-count c =
    rw c.from_residual-in_err-count.ensures
    (no_count c.args.text.now c.in_ok-after_space.after_space.now c.in_ok-number_read.after_vcpu.now c.in_ok-after_star.after_star.now
    c.in_ok-number_read.number_read c.in_ok-after_space.ensures c.in_ok-number_read.ensures c.in_ok-after_star.ensures c.in_err-count.ensures)

pub returns-then-count-eq0 : goal.returns-then-count-eq0
returns-then-count-eq0 c =
    unfit c.args.text.now c.in_ok-after_space.after_space.now c.in_ok-number_read.after_vcpu.now c.in_ok-after_star.after_star.now c.in_ok-count.rest.now
    c.in_ok-number_read.number_read c.in_ok-count.count c.in_ok-after_space.ensures c.in_ok-number_read.ensures c.in_ok-after_star.ensures c.in_ok-count.ensures
    (elim c.then-count-eq0.branch [
      | then-count-eq0-via-then-count-eq0 w ↦ λ h. absurd (omega (arith, w.if-count-eq0.true, h.1))
      | then-count-eq0-via-else-count-eq0+then-number_read-from w ↦ λ h. absurd (omega (arith, w.if-number_read-from.true, w.from.ensures, h.0))
    ])
