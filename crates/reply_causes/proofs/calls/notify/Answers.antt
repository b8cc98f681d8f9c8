use Rattle.reply_causes.proofs.NotifyLaws.{notifies_have_causes}
use Rattle.reply_causes.proofs.calls.notify.Goals as goal

pub returns : goal.returns
returns c = notifies_have_causes
