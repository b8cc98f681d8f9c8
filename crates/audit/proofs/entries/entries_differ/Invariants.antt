-- The entries so far are the machine's steps.
use Rattle.std.proofs.Common.{◌≡◌, None}
use Rattle.audit.specs.Entries.{entry_at}
use Rattle.audit.specs.First.{first_below}
use Rattle.audit.specs.Steps.{Followed}
use Rattle.audit.proofs.entries.entries_differ.Given as goal

abbrev pub invariant-loop-at : goal.invariant-loop-at
invariant-loop-at l =
    (first_below (entry_at l.fn.machine.script l.entries) l.at ≡ None) × Followed l.fn.machine.script l.entries l.at l.machine
