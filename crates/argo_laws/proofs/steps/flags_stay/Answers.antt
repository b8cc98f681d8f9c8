use Rattle.argo_laws.proofs.AllSteps as all
use Rattle.argo_laws.proofs.steps.flags_stay.Goals as goal

pub returns : goal.returns
returns c = all.flags
