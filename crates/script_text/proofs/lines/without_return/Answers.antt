use Rattle.script_text.proofs.FirstLine.{has_return, has_none}
use Rattle.script_text.proofs.lines.without_return.Goals as goal

pub returns-in-Some : goal.returns-in-Some
returns-in-Some c = has_return c.args.line.now c.in-Some.front.now c.in-Some.last.now c.in-Some.ensures.cases.0 c.if-last-eq13.true

pub returns-in_default : goal.returns-in_default
returns-in_default c = has_none c.args.line.now c.in-Some.front.now c.in-Some.last.now c.in-Some.ensures.cases.0 c.if-last-eq13.false
