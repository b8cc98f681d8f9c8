use Rattle.argo_laws.proofs.BesideLaws as laws
use Rattle.argo_laws.proofs.beside.rings_stand_well.Goals as goal

pub returns : goal.returns
returns c = laws.stands_well
