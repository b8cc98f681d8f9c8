use Rattle.argo_model.proofs.Worked.Laws.{ping_and_pong_is_taken}
use Rattle.argo_model.proofs.examples.ping_and_pong_is_taken.Goals as goal

pub returns : goal.returns
returns c = ping_and_pong_is_taken
