use Rattle.argo_model.proofs.Worked.Iovs.{verdicts}
use Rattle.argo_model.proofs.examples.verdicts.Goals as goal

pub returns : goal.returns
returns c = verdicts
