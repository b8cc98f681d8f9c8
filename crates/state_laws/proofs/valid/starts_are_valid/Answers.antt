use Rattle.state_laws.proofs.StateActs as acts
use Rattle.state_laws.proofs.valid.starts_are_valid.Goals as goal

pub returns : goal.returns
returns c s = acts.valid_start s.domains
