-- What is found of the names that are left is what is found of all.
use Rattle.std.proofs.Common.{◌≡◌}
use Rattle.std.specs.Ordering.{nat_cmp}
use Rattle.audit.specs.First.{first_in}
use Rattle.audit.specs.Names.{names_of}
use Rattle.audit.specs.Domains.{domains_of, id_of}
use Rattle.audit.proofs.by_domain.domains_differ.Given as goal

abbrev pub invariant-loop-id : goal.invariant-loop-id
invariant-loop-id l =
    first_in (domains_of l.row l.threads l.machine) l.id-iterator ≡ first_in (domains_of l.row l.threads l.machine) (names_of nat_cmp id_of l.threads l.machine)
