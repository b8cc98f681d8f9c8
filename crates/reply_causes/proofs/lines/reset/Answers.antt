use Rattle.reply_causes.proofs.ControlLaws.{resets_have_causes}
use Rattle.reply_causes.proofs.lines.reset.Goals as goal

pub returns : goal.returns
returns c = resets_have_causes
