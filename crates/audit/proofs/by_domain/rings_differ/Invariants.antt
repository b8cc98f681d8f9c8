-- What is found of the names that are left is what is found of all.
use Rattle.std.proofs.Common.{◌≡◌}
use Rattle.argo_base.specs.Match.{key_cmp}
use Rattle.audit.specs.First.{first_in}
use Rattle.audit.specs.Names.{names_of}
use Rattle.audit.specs.Domains.{rings_of, key_of}
use Rattle.audit.proofs.by_domain.rings_differ.Given as goal

abbrev pub invariant-loop-key : goal.invariant-loop-key
invariant-loop-key l =
    first_in (rings_of l.row l.threads l.machine) l.key-iterator ≡ first_in (rings_of l.row l.threads l.machine) (names_of key_cmp key_of l.threads l.machine)
