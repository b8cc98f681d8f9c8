use Rattle.argo_model.proofs.Worked.Talk.{ping_and_pong}
use Rattle.argo_model.proofs.examples.ping_and_pong.Goals as goal

pub returns : goal.returns
returns c = ping_and_pong
