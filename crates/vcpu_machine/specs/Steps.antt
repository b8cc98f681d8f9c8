-- How many steps a line may take.
use Rattle.std.specs.Prelude.{ℕ}
use Rattle.argo_model.specs.declared.line.Line.{Line}
use Rattle.argo_model.specs.declared.line.Line.TheVariants.{Store, Load, Op, Await, Recv, Destroy, Reset, Create}

-- an await has a step a turn at most, a line of the control section one, and no other line has more than 8,700
abbrev pub most_steps : Line → ℕ
most_steps (Store at bytes) = 8700
most_steps (Load at n) = 8700
most_steps (Op c a1 a2 a3 a4) = 8700
most_steps (Await turns) = turns
most_steps (Recv page len) = 8700
most_steps (Destroy d) = 1
most_steps (Reset d) = 1
most_steps (Create d) = 1
