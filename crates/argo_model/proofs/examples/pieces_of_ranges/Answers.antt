use Rattle.argo_model.proofs.Worked.Iovs.{pieces_of_ranges}
use Rattle.argo_model.proofs.examples.pieces_of_ranges.Goals as goal

pub returns : goal.returns
returns c = pieces_of_ranges
