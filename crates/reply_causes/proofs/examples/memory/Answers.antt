use Rattle.reply_causes.proofs.Rows.{memory}
use Rattle.reply_causes.proofs.examples.memory.Goals as goal

pub returns : goal.returns
returns c = memory
