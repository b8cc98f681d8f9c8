use Rattle.reply_causes.proofs.ControlLaws.{creates_have_causes}
use Rattle.reply_causes.proofs.lines.create.Goals as goal

pub returns : goal.returns
returns c = creates_have_causes
