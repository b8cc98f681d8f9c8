use Rattle.iov_plan.proofs.RangeLaws.{pieces-sum, pieces-inside}
use Rattle.iov_plan.proofs.cut.pieces.Goals as goal

pub returns-clause-bytes : goal.returns-clause-bytes
returns-clause-bytes c = rw c.over.ensures (pieces-sum c.args.at c.args.n)

pub returns-clause-inside : goal.returns-clause-inside
returns-clause-inside c = rw c.over.ensures (pieces-inside c.args.at c.args.n)
