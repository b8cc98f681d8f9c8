use Rattle.std.proofs.Common.{subst}
use Rattle.guest_pages.proofs.FlatLaws.{length-row_bytes}
use Rattle.paged_live.proofs.HomeLaws.{AreWhole}
use Rattle.paged_live.proofs.registers.ring_on.Goals as goal

pub returns-clause-sized : goal.returns-clause-sized
returns-clause-sized c = length-row_bytes c.new-ring.result.row (subst AreWhole c.row.ensures c.count.ensures.whole)
