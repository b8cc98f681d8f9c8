use Rattle.std.proofs.Common.{◌≡◌, ℕ, ◌<◌}
use Rattle.argo_model.specs.Rules.Puts.{place_after_first}
use Rattle.ring_core.proofs.puts.taken_by.Given as goal

-- no message so far ends at the value, and `place` is where they end
abbrev pub invariant-loop-k : goal.invariant-loop-k
invariant-loop-k l = record {
  here : l.place ≡ place_after_first l.len l.rx l.untaken.items l.k;
  before : (j : ℕ) → j < l.k → place_after_first l.len l.rx l.untaken.items j ≡ l.value → ⊥;
}
