use Rattle.reply_causes.proofs.LineLaws.{all_replies_have_causes}
use Rattle.argo_laws.proofs.replies.replies_have_causes.Goals as goal

pub returns : goal.returns
returns c = all_replies_have_causes
