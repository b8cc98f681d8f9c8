use Rattle.reply_causes.proofs.MemoryLaws.{awaits_have_causes, awaits_look_turns}
use Rattle.reply_causes.proofs.lines.await_flag.Goals as goal

pub returns-clause-causes : goal.returns-clause-causes
returns-clause-causes c = awaits_have_causes

pub returns-clause-turns : goal.returns-clause-turns
returns-clause-turns c = awaits_look_turns
