use Rattle.std.proofs.Common.{◌≡◌, ◌++◌, take, drop}
use Rattle.argo_model.specs.Rules.Destroy.{forget}
use Rattle.domains.proofs.ends.forget_in.Given as goal

-- the rows before this one have forgotten, and those from it on are as they were
abbrev pub invariant-loop-row : goal.invariant-loop-row
invariant-loop-row g l = forget l.initial.rows l.dom ≡ take l.row-index l.rows ++ forget (drop l.row-index l.rows) l.dom
