use Rattle.std.proofs.Common.{refl}
use Rattle.std.specs.Fmt.{digits}
use Rattle.report_text.specs.Examples.{StoreAcrossPages}
use Rattle.report_text.proofs.examples.store_across_pages.Goals as goal

computed : StoreAcrossPages
unfolding digits
computed = refl

pub returns : goal.returns
returns c = computed
