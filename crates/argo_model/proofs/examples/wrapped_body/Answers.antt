use Rattle.argo_model.proofs.Worked.Talk.{wrapped_body}
use Rattle.argo_model.proofs.examples.wrapped_body.Goals as goal

pub returns : goal.returns
returns c = wrapped_body
