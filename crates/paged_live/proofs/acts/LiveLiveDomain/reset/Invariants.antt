use Rattle.std.proofs.Common.{◌≡◌, false, length}
use Rattle.argo_model.specs.Rules.Destroy.{reset_live}
use Rattle.paged_live.proofs.acts.LiveLiveDomain.reset.Given as goal

abbrev pub invariant-rings : goal.invariant-rings
invariant-rings l = (l.self.flag ≡ false) × (reset_live l.self ≡ reset_live l.initial.self)

abbrev pub decreases-rings : goal.decreases-rings
decreases-rings l = length l.self.rings
