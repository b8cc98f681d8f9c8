use Rattle.std.proofs.Common.{subst}
use Rattle.guest_pages.proofs.FlatLaws.{length-row_bytes}
use Rattle.paged_live.proofs.HomeLaws.{AreWhole}
use Rattle.paged_live.proofs.registers.restart.Goals as goal

pub returns-clause-sized : goal.returns-clause-sized
returns-clause-sized c = length-row_bytes c.restart-ended.new.self.row (subst AreWhole c.row-2.ensures c.count-2.ensures.whole)
