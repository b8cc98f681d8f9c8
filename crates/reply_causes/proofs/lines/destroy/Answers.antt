use Rattle.reply_causes.proofs.ControlLaws.{destroys_have_causes}
use Rattle.reply_causes.proofs.lines.destroy.Goals as goal

pub returns : goal.returns
returns c = destroys_have_causes
