use Rattle.std.proofs.Common.{◌≡◌, ◌*◌, take}
use Rattle.paged_live.proofs.acts.LiveLiveDomain.memory.Given as goal

abbrev pub invariant-loop-page : goal.invariant-loop-page
invariant-loop-page l = l.bytes ≡ take (4096 * l.page) l.self.bytes
