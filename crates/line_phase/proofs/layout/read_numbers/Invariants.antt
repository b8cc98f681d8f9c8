use Rattle.std.proofs.Common.{◌≡◌, ◌*◌, map}
use Rattle.std.specs.List.{range_with_len}
use Rattle.argo_base.specs.Layout.{u64_at}
use Rattle.line_phase.proofs.layout.read_numbers.Given as goal

-- the numbers so far
abbrev pub invariant-loop-i : goal.invariant-loop-i
invariant-loop-i l = l.numbers.items ≡ map (λ k. u64_at l.bytes (8 * k)) (range_with_len 0 l.i)
