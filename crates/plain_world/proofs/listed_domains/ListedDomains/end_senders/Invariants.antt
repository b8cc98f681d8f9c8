use Rattle.std.proofs.Common.{◌≡◌, ◌+◌, [], length}
use Rattle.argo_model.specs.Rules.Destroy.{forget}
use Rattle.domain_lists.specs.Lists.{ids_of, AreNoLonger}
use Rattle.plain_world.proofs.listed_domains.ListedDomains.end_senders.Given as goal
use Rattle.domains.specs.ById.{rings_of}

-- so many rings ended, and the rest are named
abbrev pub invariant-loop : goal.invariant-loop
invariant-loop g l = record {
  rings : rings_of l.self.state l.dom ≡ [];
  same : forget l.self.state l.dom ≡ forget l.initial.self.state l.dom;
  left : length (ids_of l.self.sends l.dom) + l.counter ≡ l.count;
  waits : AreNoLonger l.initial.self.waits l.self.waits;
}
