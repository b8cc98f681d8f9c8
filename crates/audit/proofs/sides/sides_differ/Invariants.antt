-- What is found of the rows that are left is what is found of all.
use Rattle.std.proofs.Common.{◌≡◌, drop}
use Rattle.audit.specs.First.{first_in}
use Rattle.audit.specs.Rows.{sides_in}
use Rattle.audit.proofs.sides.sides_differ.Given as goal

abbrev pub invariant-loop-row : goal.invariant-loop-row
invariant-loop-row l =
    first_in (sides_in l.step l.threads l.machine) (drop l.row-index l.row-items) ≡ first_in (sides_in l.step l.threads l.machine) l.row-items
