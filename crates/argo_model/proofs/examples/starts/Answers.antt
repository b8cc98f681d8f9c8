use Rattle.argo_model.proofs.Worked.Puts.{starts}
use Rattle.argo_model.proofs.examples.starts.Goals as goal

pub returns : goal.returns
returns c = starts
