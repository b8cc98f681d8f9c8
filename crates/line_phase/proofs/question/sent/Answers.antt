use Rattle.std.proofs.Common.{◌∙◌, arith}
use Rattle.argo_model.specs.Programs.Send.{say_accepted}
use Rattle.line_phase.proofs.LeadLaws.{unless_gone-other}
use Rattle.line_phase.proofs.question.sent.Goals as goal

pub returns-in_default : goal.returns-in_default
returns-in_default c = λ to load line new. record {
  rest = λ os. unless_gone-other c.args.outcome.now say_accepted os c.in_default.not-Gone ∙ c.delivered.ensures.rest line os;
  ready = c.delivered.ensures.ready line;
  nearer = let few = c.delivered.ensures.few in omega (arith, few);
}
