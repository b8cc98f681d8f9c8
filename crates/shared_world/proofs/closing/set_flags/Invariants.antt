use Rattle.std.proofs.Common.{◌≡◌, ◌++◌, map, take, drop}
use Rattle.shared_world.specs.Closed.{flagged}
use Rattle.shared_world.proofs.closing.set_flags.Given as goal

-- the rows before this one have their flags, and those from it on are as they were
abbrev pub invariant-loop-row : goal.invariant-loop-row
invariant-loop-row g l = map (flagged l.board.entries) l.initial.rows ≡ take l.row-index l.rows ++ map (flagged l.board.entries) (drop l.row-index l.rows)
