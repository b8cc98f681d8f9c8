use Rattle.argo_laws.proofs.BesideLaws as laws
use Rattle.argo_laws.proofs.headline.headline_holds.Goals as goal

pub returns : goal.returns
returns c = laws.headline
