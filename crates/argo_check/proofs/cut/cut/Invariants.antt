use Rattle.std.proofs.Common.{ℕ, List, ◌≤◌, length}
use Rattle.argo_check.specs.Cut.{IsMarkBetween}
use Rattle.argo_check.proofs.cut.cut.Given as goal

-- no mark stands before this place
abbrev pub invariant-loop-at : goal.invariant-loop-at
invariant-loop-at l = (before after : List ℕ) → IsMarkBetween l.text before after → l.at ≤ length before
