use Rattle.reply_causes.proofs.GoneLaws.{lost_exactly_where_away}
use Rattle.reply_causes.proofs.lines.gone.Goals as goal

pub returns : goal.returns
returns c = lost_exactly_where_away
