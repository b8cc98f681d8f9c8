use Rattle.reply_causes.proofs.Rows.{recvs}
use Rattle.reply_causes.proofs.examples.recvs.Goals as goal

pub returns : goal.returns
returns c = recvs
