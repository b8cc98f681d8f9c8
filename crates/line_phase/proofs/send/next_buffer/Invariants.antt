use Rattle.argo_base.specs.Iovs.{iovs_at}
use Rattle.line_phase.specs.Sending.{SkipsTo}
use Rattle.line_phase.proofs.send.next_buffer.Given as goal

-- the buffers before this place have no bytes
abbrev pub invariant-loop-place : goal.invariant-loop-place
invariant-loop-place l = SkipsTo (iovs_at l.list l.count) l.from l.place
