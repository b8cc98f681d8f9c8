use Rattle.std.proofs.Common.{refl}
use Rattle.audit.specs.Rows.{all_rows}
use Rattle.audit.proofs.rows.all_rows.Goals as goal

pub returns : goal.returns
unfolding all_rows
returns c = refl
