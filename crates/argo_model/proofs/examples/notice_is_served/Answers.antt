use Rattle.argo_model.proofs.Worked.Laws.{notice_is_served}
use Rattle.argo_model.proofs.examples.notice_is_served.Goals as goal

pub returns : goal.returns
returns c = notice_is_served
