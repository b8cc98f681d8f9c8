use Rattle.argo_laws.proofs.Accounts as accounts
use Rattle.argo_laws.proofs.holding.clean_rings_hold.Goals as goal

pub returns : goal.returns
returns c = accounts.holding
