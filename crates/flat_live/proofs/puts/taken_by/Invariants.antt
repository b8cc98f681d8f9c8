use Rattle.std.proofs.Common.{◌≡◌, ℕ, ◌*◌, ◌<◌, ◌≤◌, ◌^◌, take, sum_by}
use Rattle.argo_model.specs.Rules.Messages.{room_of}
use Rattle.argo_model.specs.Rules.Puts.{place_after_first}
use Rattle.flat_live.proofs.puts.taken_by.Given as goal

-- no message so far ends at the value, and `taken` is their room
abbrev pub invariant-loop-k : goal.invariant-loop-k
invariant-loop-k l = record {
  total : l.taken ≡ sum_by room_of (take l.k l.untaken);
  small : l.taken ≤ 2 ^ 65 * l.k;
  before : (j : ℕ) → j < l.k → place_after_first l.len l.rx l.untaken j ≡ l.value → ⊥;
}
