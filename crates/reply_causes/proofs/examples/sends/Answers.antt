use Rattle.reply_causes.proofs.Rows.{sends}
use Rattle.reply_causes.proofs.examples.sends.Goals as goal

pub returns : goal.returns
returns c = sends
