use Rattle.reply_causes.proofs.Rows.{endings}
use Rattle.reply_causes.proofs.examples.endings.Goals as goal

pub returns : goal.returns
returns c = endings
