use Rattle.argo_laws.proofs.AllSteps as all
use Rattle.argo_laws.proofs.steps.notices_stand.Goals as goal

pub returns : goal.returns
returns c = all.notices
