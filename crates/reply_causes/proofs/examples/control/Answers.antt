use Rattle.reply_causes.proofs.Rows.{control}
use Rattle.reply_causes.proofs.examples.control.Goals as goal

pub returns : goal.returns
returns c = control
