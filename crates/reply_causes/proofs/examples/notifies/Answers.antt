use Rattle.reply_causes.proofs.Rows.{notifies}
use Rattle.reply_causes.proofs.examples.notifies.Goals as goal

pub returns : goal.returns
returns c = notifies
