use Rattle.std.proofs.Common.{◌≡◌, drop}
use Rattle.domains.specs.Place.{slot_of}
use Rattle.domains.proofs.PlaceLaws.{moved_slot}
use Rattle.domains.proofs.domain_map.DomainMap.slot_of.Given as goal

-- what is found in the rows that are left is found in all, as many places on as were passed
abbrev pub invariant-loop-row : goal.invariant-loop-row
invariant-loop-row g l = record {
  passed : l.place ≡ l.row-index;
  found : moved_slot l.row-index (slot_of (drop l.row-index l.self) l.dom) ≡ slot_of l.self l.dom;
}
