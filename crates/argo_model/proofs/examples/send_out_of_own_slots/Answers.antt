use Rattle.argo_model.proofs.Worked.OwnSlots.{send_out_of_own_slots}
use Rattle.argo_model.proofs.examples.send_out_of_own_slots.Goals as goal

pub returns : goal.returns
returns c = send_out_of_own_slots
