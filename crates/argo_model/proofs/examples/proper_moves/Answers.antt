use Rattle.argo_model.proofs.Worked.Puts.{proper_moves}
use Rattle.argo_model.proofs.examples.proper_moves.Goals as goal

pub returns : goal.returns
returns c = proper_moves
