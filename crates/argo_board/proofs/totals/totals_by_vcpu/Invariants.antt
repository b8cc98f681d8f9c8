use Rattle.std.proofs.Common.{◌≡◌, map, take}
use Rattle.argo_board.specs.Board.{totals_of}
use Rattle.argo_board.proofs.totals.totals_by_vcpu.Given as goal

abbrev pub invariant-loop-pass : goal.invariant-loop-pass
invariant-loop-pass g l = l.totals.items ≡ map totals_of (take l.pass-index l.passes.items)
