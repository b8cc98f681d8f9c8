use Rattle.reply_causes.proofs.SendReadLaws.{sends_have_causes}
use Rattle.reply_causes.proofs.calls.sendv.Goals as goal

pub returns : goal.returns
returns c = sends_have_causes
