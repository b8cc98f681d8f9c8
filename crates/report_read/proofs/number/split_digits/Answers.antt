use Rattle.std.proofs.lemmas.Int.Digits.{digits_more}
use Rattle.report_read.proofs.number.split_digits.Goals as goal

pub loop-end-preserved : goal.loop-end-preserved
loop-end-preserved c =
    digits_more 10 c.args.text.now c.loop-end.end c.loop-end-test.true c.loop-end.invariant c.if-not-is_ascii_digit.ensures.bound
