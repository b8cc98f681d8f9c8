use Rattle.argo_model.proofs.Worked.Laws.{ping_in_short}
use Rattle.argo_model.proofs.examples.ping_in_short.Goals as goal

pub returns : goal.returns
returns c = ping_in_short
