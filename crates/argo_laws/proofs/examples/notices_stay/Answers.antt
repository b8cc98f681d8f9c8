use Rattle.argo_laws.proofs.Rows as rows
use Rattle.argo_laws.proofs.examples.notices_stay.Goals as goal

pub returns : goal.returns
returns c = rows.notices_stay
