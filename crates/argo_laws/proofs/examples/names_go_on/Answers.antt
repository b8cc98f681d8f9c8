use Rattle.argo_laws.proofs.Rows as rows
use Rattle.argo_laws.proofs.examples.names_go_on.Goals as goal

pub returns : goal.returns
returns c = rows.names_go_on
