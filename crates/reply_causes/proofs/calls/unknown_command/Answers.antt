use Rattle.reply_causes.proofs.RegisterLaws.{unknowns_have_causes}
use Rattle.reply_causes.proofs.calls.unknown_command.Goals as goal

pub returns : goal.returns
returns c = unknowns_have_causes
