use Rattle.std.proofs.Common.{◌≡◌, map, take}
use Rattle.argo_model.specs.Runs.Final.{notice_line_of}
use Rattle.paged_live.proofs.finals.lines_of.Given as goal

abbrev pub invariant-loop-dom : goal.invariant-loop-dom
invariant-loop-dom l = l.lines ≡ map notice_line_of (take l.dom-index l.notices)
