use Rattle.std.proofs.Common.{refl}
use Rattle.gen_script.specs.Made.{domain_count}
use Rattle.gen_script.specs.Examples.{FirstLines}
use Rattle.gen_script.proofs.examples.first_lines_of_zero.Goals as goal

computed : FirstLines
unfolding domain_count
computed = refl

pub returns-clause-lines : goal.returns-clause-lines
returns-clause-lines c = computed
