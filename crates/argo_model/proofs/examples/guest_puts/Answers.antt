use Rattle.argo_model.proofs.Worked.Puts.{guest_puts}
use Rattle.argo_model.proofs.examples.guest_puts.Goals as goal

pub returns : goal.returns
returns c = guest_puts
