use Rattle.argo_model.proofs.Worked.Ends.{reset_and_create}
use Rattle.argo_model.proofs.examples.reset_and_create.Goals as goal

pub returns : goal.returns
returns c = reset_and_create
