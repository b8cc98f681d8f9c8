use Rattle.std.proofs.Common.{refl}
use Rattle.std.specs.Fmt.{digits}
use Rattle.report_text.specs.Examples.{SecondBodyGetsANotice}
use Rattle.report_text.proofs.examples.second_body_gets_a_notice.Goals as goal

computed : SecondBodyGetsANotice
unfolding digits
computed = refl

pub returns : goal.returns
returns c = computed
