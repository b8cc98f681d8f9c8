use Rattle.std.proofs.Common.{◌≡◌, ◌+◌, length}
use Rattle.argo_model.specs.Rules.Destroy.{forget}
use Rattle.domain_lists.specs.Lists.{AreNoLonger}
use Rattle.touch_laws.specs.Ends.{EndSame}
use Rattle.plain_world.proofs.listed_domains.ListedDomains.end_rings.Given as goal
use Rattle.domains.specs.ById.{rings_of}

-- so many rings ended, and the rest stand
abbrev pub invariant-loop : goal.invariant-loop
invariant-loop g l = record {
  same : EndSame l.dom (forget l.initial.self.state l.dom) (forget l.self.state l.dom);
  left : length (rings_of l.self.state l.dom) + l.counter ≡ l.count;
  sends : AreNoLonger l.initial.self.sends l.self.sends;
  waits : AreNoLonger l.initial.self.waits l.self.waits;
}
