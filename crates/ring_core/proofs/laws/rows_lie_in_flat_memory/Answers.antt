use Rattle.ring_core.proofs.FlatLaws.{row_lies_flat, row_laid_flat}
use Rattle.ring_core.proofs.laws.rows_lie_in_flat_memory.Goals as goal

pub returns : goal.returns
returns c = record { read = row_lies_flat; written = row_laid_flat }
