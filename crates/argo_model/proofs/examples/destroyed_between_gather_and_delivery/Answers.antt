use Rattle.argo_model.proofs.Worked.Ends.{destroyed_between_gather_and_delivery}
use Rattle.argo_model.proofs.examples.destroyed_between_gather_and_delivery.Goals as goal

pub returns : goal.returns
returns c = destroyed_between_gather_and_delivery
