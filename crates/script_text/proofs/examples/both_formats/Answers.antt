use Rattle.script_text.proofs.Computed as computed
use Rattle.script_text.proofs.examples.both_formats.Goals as goal

pub returns : goal.returns
returns c = computed.both_formats
