-- What is found of the names that are left is what is found of all.
use Rattle.std.proofs.Common.{◌≡◌}
use Rattle.std.specs.Ordering.{nat_cmp}
use Rattle.audit.specs.First.{first_in}
use Rattle.audit.specs.Names.{names_of}
use Rattle.audit.specs.Rings.{notices_of, noted}
use Rattle.audit.proofs.rings.notices_differ.Given as goal

abbrev pub invariant-loop-dom : goal.invariant-loop-dom
invariant-loop-dom l =
    first_in (notices_of l.threads l.machine) l.dom-iterator ≡ first_in (notices_of l.threads l.machine) (names_of nat_cmp noted l.threads l.machine)
