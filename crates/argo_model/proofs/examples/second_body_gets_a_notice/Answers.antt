use Rattle.argo_model.proofs.Worked.Messages.{second_body_gets_a_notice}
use Rattle.argo_model.proofs.examples.second_body_gets_a_notice.Goals as goal

pub returns : goal.returns
returns c = second_body_gets_a_notice
