use Rattle.argo_laws.proofs.Rows as rows
use Rattle.argo_laws.proofs.examples.flags_are_set.Goals as goal

pub returns : goal.returns
returns c = rows.flags_are_set
