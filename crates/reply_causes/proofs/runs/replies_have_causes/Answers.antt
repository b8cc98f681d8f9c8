use Rattle.reply_causes.proofs.LineLaws.{all_replies_have_causes}
use Rattle.reply_causes.proofs.runs.replies_have_causes.Goals as goal

pub returns : goal.returns
returns c = all_replies_have_causes
