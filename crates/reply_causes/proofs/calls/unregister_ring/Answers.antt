use Rattle.reply_causes.proofs.RegisterLaws.{unregisters_have_causes}
use Rattle.reply_causes.proofs.calls.unregister_ring.Goals as goal

pub returns : goal.returns
returns c = unregisters_have_causes
