use Rattle.std.proofs.Common.{◌≡◌, ◌≤◌, length, take}
use Rattle.std.specs.Prelude.{vec_capacity}
use Rattle.paged_live.proofs.sweeps.list.Given as goal

abbrev pub invariant-loop-dom : goal.invariant-loop-dom
invariant-loop-dom l = (l.doms.items ≡ take l.dom-index l.ended) × (length l.ended ≤ vec_capacity l.doms)
