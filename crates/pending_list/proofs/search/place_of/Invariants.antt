use Rattle.std.proofs.Common.{◌≡◌, drop}
use Rattle.std.specs.Ordering.{nat_cmp}
use Rattle.pending_list.specs.Search.{place_of}
use Rattle.pending_list.proofs.SearchLaws.{moved}
use Rattle.pending_list.proofs.search.place_of.Given as goal

-- what is found in the rows that are left is found in all, as many places on as were passed
abbrev pub invariant-loop-row : goal.invariant-loop-row
invariant-loop-row l = record {
  passed : l.place ≡ l.row-index;
  found : moved l.row-index (place_of nat_cmp (drop l.row-index l.rows) l.dom) ≡ place_of nat_cmp l.rows l.dom;
}
