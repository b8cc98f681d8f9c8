use Rattle.std.proofs.Common.{◌∙◌, arith}
use Rattle.line_phase.specs.Question.{answered_by}
use Rattle.line_phase.proofs.LeadLaws.{unless_gone-other}
use Rattle.line_phase.proofs.phase.Question.asked.Goals as goal

pub returns-in_default : goal.returns-in_default
returns-in_default c = λ line new. record {
  rest = λ os. unless_gone-other c.args.outcome.now (answered_by c.args.self.now) os c.in_default.not-Gone ∙ c.answered.ensures.rest line os;
  ready = c.answered.ensures.ready line;
  nearer = let few = c.answered.ensures.few in omega (arith, few);
}
