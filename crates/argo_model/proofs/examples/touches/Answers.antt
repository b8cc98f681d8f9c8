use Rattle.argo_model.proofs.Worked.Puts.{touches}
use Rattle.argo_model.proofs.examples.touches.Goals as goal

pub returns : goal.returns
returns c = touches
