use Rattle.std.proofs.Common.{◌≡◌, ◌≤◌, length, take, filter}
use Rattle.argo_base.specs.Notices.{doms_of}
use Rattle.pending_list.specs.Ending.{ends}
use Rattle.pending_list.proofs.ending.Ending.doms.Given as goal

-- the list has the domains that end of the rows so far
abbrev pub invariant-loop-row : goal.invariant-loop-row
invariant-loop-row l = record {
  so_far : l.doms ≡ doms_of (filter (ends l.self) (take l.row-index l.rows));
  most : length l.doms ≤ l.row-index;
}
