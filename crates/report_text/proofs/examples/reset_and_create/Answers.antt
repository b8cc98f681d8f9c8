use Rattle.std.proofs.Common.{refl}
use Rattle.std.specs.Fmt.{digits}
use Rattle.report_text.specs.Examples.{ResetAndCreate}
use Rattle.report_text.proofs.examples.reset_and_create.Goals as goal

computed : ResetAndCreate
unfolding digits
computed = refl

pub returns : goal.returns
returns c = computed
