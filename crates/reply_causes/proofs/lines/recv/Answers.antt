use Rattle.reply_causes.proofs.RecvLaws.{recvs_have_causes}
use Rattle.reply_causes.proofs.lines.recv.Goals as goal

pub returns : goal.returns
returns c = recvs_have_causes
