use Rattle.argo_board.proofs.SegmentLaws.{gather-more}
use Rattle.argo_board.proofs.journal.Journal.in_order.Goals as goal

pub loop-segment-preserved : goal.loop-segment-preserved
loop-segment-preserved c =
    let full = c.in-Some.ensures.items in
    let more = gather-more c.loop-segment.all.items c.self.inside.newest.items c.pop_back.new.self c.in-Some.segment in
    rw (c.in_ok-append.ensures.items, more, ← full) c.loop-segment.invariant
