use Rattle.argo_model.proofs.Worked.Puts.{starts_in_memory}
use Rattle.argo_model.proofs.examples.starts_in_memory.Goals as goal

pub returns : goal.returns
returns c = starts_in_memory
