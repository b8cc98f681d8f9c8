use Rattle.report_read.proofs.NumberLaws.{read_none}
use Rattle.report_read.proofs.number.number.Goals as goal

pub returns-in_err-value_of : goal.returns-in_err-value_of
returns-in_err-value_of c =
    rw c.from_residual.ensures
    (read_none c.args.text.now c.split_digits.result.0.now c.split_digits.result.1.now c.split_digits.ensures.whole c.split_digits.ensures.digits
    c.split_digits.ensures.stops c.in_err-value_of.ensures)
