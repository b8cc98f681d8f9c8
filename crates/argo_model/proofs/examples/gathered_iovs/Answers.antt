use Rattle.argo_model.proofs.Worked.Iovs.{gathered_iovs}
use Rattle.argo_model.proofs.examples.gathered_iovs.Goals as goal

pub returns : goal.returns
returns c = gathered_iovs
