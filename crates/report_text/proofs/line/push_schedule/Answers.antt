use Rattle.std.proofs.Common.{arith}
use Rattle.std.proofs.lemmas.Grind.{common_steps}
use Rattle.report_text.proofs.WordLemmas.{schedule_line_lem}
use Rattle.report_text.proofs.line.push_schedule.Goals as goal

pub returns : goal.returns
returns c = grind (arith, common_steps, schedule_line_lem)
