-- What a closed world has of its domains.
use Rattle.std.specs.Prelude.{◌≡◌, ℕ, ◌==◌, List, map}
use Rattle.std.specs.List.{list_any}
use Rattle.std.specs.List.Sorted.{IsStrictlySortedBy}
use Rattle.std.specs.Ordering.{nat_cmp}
use Rattle.argo_model.specs.declared.closed.ClosedDomain.{ClosedDomain}
use Rattle.argo_model.specs.declared.scripts.DomainLine.{DomainLine}
use Rattle.argo_model.specs.Runs.Script.{has_domain}

abbrev pub ids_of : List ClosedDomain → List ℕ
ids_of rows = map (λ x. x.id) rows

-- a row for each domain of the script, and none else
abbrev pub AreRowsOf : List DomainLine → List ClosedDomain → Type 0
AreRowsOf lines rows = (d : ℕ) → list_any (λ k. k == d) (ids_of rows) ≡ has_domain lines d

-- the rows stand by rising id, so no domain has a second
abbrev pub Rise : List ClosedDomain → Type 0
Rise rows = IsStrictlySortedBy nat_cmp (ids_of rows)
