use Rattle.std.proofs.Common.{◌≡◌, length, take}
use Rattle.argo_base.specs.Iovs.{iovs_at}
use Rattle.line_phase.proofs.send.read_iovs.Given as goal

-- the buffers before this place are read
abbrev pub invariant-loop-i : goal.invariant-loop-i
invariant-loop-i l = (length l.iovs ≡ 8) × (take l.i l.iovs ≡ iovs_at l.list l.i)
