use Rattle.reply_causes.proofs.RegisterLaws.{registers_have_causes}
use Rattle.reply_causes.proofs.calls.register_ring.Goals as goal

pub returns : goal.returns
returns c = registers_have_causes
