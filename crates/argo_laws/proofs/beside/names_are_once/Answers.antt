use Rattle.argo_laws.proofs.NameRuns as names
use Rattle.argo_laws.proofs.beside.names_are_once.Goals as goal

pub returns : goal.returns
returns c = names.once
