use Rattle.std.proofs.Common.{◌≡◌, take}
use Rattle.shared_rings.proofs.ended.copy_of.Given as goal

abbrev pub invariant-loop-dom : goal.invariant-loop-dom
invariant-loop-dom l = l.copy ≡ take l.dom-index l.doms
