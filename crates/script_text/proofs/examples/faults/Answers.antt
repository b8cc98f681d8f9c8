use Rattle.script_text.proofs.Computed as computed
use Rattle.script_text.proofs.examples.faults.Goals as goal

pub returns : goal.returns
returns c = computed.faults
