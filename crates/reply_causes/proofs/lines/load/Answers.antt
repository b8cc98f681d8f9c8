use Rattle.reply_causes.proofs.MemoryLaws.{loads_have_causes}
use Rattle.reply_causes.proofs.lines.load.Goals as goal

pub returns : goal.returns
returns c = loads_have_causes
