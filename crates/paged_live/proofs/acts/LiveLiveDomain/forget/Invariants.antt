use Rattle.std.proofs.Common.{◌≡◌, ◌-◌}
use Rattle.argo_model.specs.Rules.Destroy.{live_without}
use Rattle.paged_live.specs.Forgets.{AllForgotten}
use Rattle.paged_live.proofs.acts.LiveLiveDomain.forget.Given as goal

abbrev pub invariant-rings : goal.invariant-rings
invariant-rings l = (live_without l.dom l.self ≡ live_without l.dom l.initial.self) × AllForgotten l.dom l.serial l.self

abbrev pub decreases-rings : goal.decreases-rings
decreases-rings l = l.self.next_serial - l.serial
