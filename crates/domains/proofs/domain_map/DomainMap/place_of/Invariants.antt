use Rattle.std.proofs.Common.{◌≡◌, drop}
use Rattle.domains.specs.Place.{place_of}
use Rattle.domains.proofs.PlaceLaws.{moved}
use Rattle.domains.proofs.domain_map.DomainMap.place_of.Given as goal

-- what is found in the rows that are left is found in all, as many places on as were passed
abbrev pub invariant-loop-row : goal.invariant-loop-row
invariant-loop-row g l = record {
  passed : l.place ≡ l.row-index;
  found : moved l.row-index (place_of (drop l.row-index l.self) l.dom) ≡ place_of l.self l.dom;
}
