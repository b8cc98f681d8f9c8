use Rattle.reply_causes.proofs.Rows.{registrations}
use Rattle.reply_causes.proofs.examples.registrations.Goals as goal

pub returns : goal.returns
returns c = registrations
