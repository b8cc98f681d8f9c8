use Rattle.reply_causes.proofs.MemoryLaws.{stores_have_causes}
use Rattle.reply_causes.proofs.lines.store.Goals as goal

pub returns : goal.returns
returns c = stores_have_causes
