use Rattle.serial_run.proofs.UniqueLaws as laws
use Rattle.serial_run.proofs.laws.picks_are_unique.Goals as goal

pub returns : goal.returns
returns c = laws.unique
