use Rattle.std.proofs.Common.{◌≡◌, ◌++◌, map}
use Rattle.argo_model.specs.Runs.Final.{notice_line_of}
use Rattle.flat_live.proofs.notices.NoticeMap.lines.Given as goal

-- the lines so far and those of the notices that are left are those of all
abbrev pub invariant-loop-dom : goal.invariant-loop-dom
invariant-loop-dom l = l.lines ++ map notice_line_of l.dom-iterator ≡ map notice_line_of l.self
