use Rattle.std.proofs.Common.{◌≡◌, ◌++◌}
use Rattle.std.specs.LinkedList.{linked_list_len}
use Rattle.argo_board.specs.Segments.{entries_in}
use Rattle.argo_board.proofs.journal.Journal.in_order.Given as goal

-- what is gathered, then what is still in segments
abbrev pub invariant-loop-segment : goal.invariant-loop-segment
invariant-loop-segment l = l.all.items ++ (entries_in l.full ++ l.newest.items) ≡ l.fn.self.entries

abbrev pub decreases-loop-segment : goal.decreases-loop-segment
decreases-loop-segment l = linked_list_len l.full
