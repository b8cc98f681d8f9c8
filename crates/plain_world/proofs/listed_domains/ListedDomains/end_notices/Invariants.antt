use Rattle.std.proofs.Common.{◌≡◌, ◌+◌, [], length}
use Rattle.argo_model.specs.Rules.Destroy.{forget}
use Rattle.domain_lists.specs.Lists.{ids_of}
use Rattle.plain_world.proofs.listed_domains.ListedDomains.end_notices.Given as goal
use Rattle.domains.specs.ById.{rings_of}

-- so many notices ended, and the rest are named
abbrev pub invariant-loop : goal.invariant-loop
invariant-loop g l = record {
  rings : rings_of l.self.state l.dom ≡ [];
  sends : l.self.sends ≡ l.initial.self.sends;
  same : forget l.self.state l.dom ≡ forget l.initial.self.state l.dom;
  left : length (ids_of l.self.waits l.dom) + l.counter ≡ l.count;
}
