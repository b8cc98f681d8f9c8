-- What is compared of a closed world, in this order.
use Rattle.std.specs.Prelude.{ℕ, ◌+◌, List, [], ◌∷◌, Option}
use Rattle.std.specs.Option.{option_map}
use Rattle.argo_model.specs.declared.closed.HeardLine.{HeardLine}
use Rattle.argo_model.specs.declared.closed.ClosedDomain.{ClosedDomain}
use Rattle.argo_model.specs.declared.closing.Totals.{Totals}
use Rattle.argo_model.specs.declared.short.Short.{Short}
use Rattle.argo_model.specs.Rules.Shorts.{short}
use Rattle.audit.specs.declared.rows.Row.{Row}
use Rattle.audit.specs.declared.rows.Row.TheVariants as row
use Rattle.audit.specs.declared.rows.DomainRow.TheVariants as domain
use Rattle.audit.specs.declared.rows.RingRow.TheVariants as ring
use Rattle.audit.specs.declared.split.Split.{Split}
use Rattle.audit.specs.declared.values.Values.{Values}
use Rattle.audit.specs.Domains.{domains_differ}
use Rattle.audit.specs.First.{first_in}
use Rattle.audit.specs.Heard.{heard_texts, heard_steps, totals_differ}

-- what is compared of one side
pub record SideAt : Type 0 where
  pub heard : List (List HeardLine)
  pub domains : List ClosedDomain
  pub totals : List Totals

abbrev pub side : List (List HeardLine) → List ClosedDomain → List Totals → SideAt
side heard domains totals = record { heard = heard; domains = domains; totals = totals }

-- all rows, in the order in which they are compared
unfoldable pub all_rows : List Row
all_rows =
    row.Texts ∷ row.Steps ∷ row.Domain domain.Alive ∷ row.Domain domain.Flag
    ∷ row.Domain (domain.Ring ring.There) ∷ row.Domain (domain.Ring ring.Serial) ∷ row.Domain (domain.Ring ring.Length)
    ∷ row.Domain (domain.Ring ring.Tx) ∷ row.Domain (domain.Ring ring.Clean) ∷ row.Domain (domain.Ring ring.Untaken)
    ∷ row.Domain (domain.Ring ring.Notices) ∷ row.Domain (domain.Ring ring.Pages) ∷ row.Domain domain.Memory
    ∷ row.Totals ∷ row.Domain domain.Generation ∷ []

-- the numbers that say in a split what differs
abbrev pub tag_of : Row → ℕ
tag_of row.Texts = 20
tag_of row.Steps = 21
tag_of (row.Domain domain.Alive) = 22
tag_of (row.Domain domain.Flag) = 23
tag_of (row.Domain (domain.Ring ring.There)) = 24
tag_of (row.Domain (domain.Ring ring.Serial)) = 25
tag_of (row.Domain (domain.Ring ring.Length)) = 26
tag_of (row.Domain (domain.Ring ring.Tx)) = 27
tag_of (row.Domain (domain.Ring ring.Clean)) = 28
tag_of (row.Domain (domain.Ring ring.Untaken)) = 29
tag_of (row.Domain (domain.Ring ring.Notices)) = 30
tag_of (row.Domain (domain.Ring ring.Pages)) = 31
tag_of (row.Domain domain.Memory) = 32
tag_of row.Totals = 33
tag_of (row.Domain domain.Generation) = 34

abbrev pub row_differs : Row → SideAt → SideAt → Option Values
row_differs row.Texts x y = heard_texts x.heard y.heard
row_differs row.Steps x y = heard_steps x.heard y.heard
row_differs (row.Domain d) x y = domains_differ d x.domains y.domains
row_differs row.Totals x y = totals_differ x.totals y.totals

-- a split at a step
abbrev pub split : ℕ → Short → Short → Split
split step threads machine = record { step = step; threads = threads; machine = machine }

abbrev pub split_of : ℕ → ℕ → Values → Split
split_of step tag v = split step (short tag v.threads) (short tag v.machine)

-- the first row in which two sides differ
abbrev pub sides_in : ℕ → SideAt → SideAt → Row → Option Split
sides_in step x y r = option_map (split_of step (tag_of r)) (row_differs r x y)

abbrev pub sides_differ : ℕ → SideAt → SideAt → Option Split
sides_differ step x y = first_in (sides_in step x y) all_rows
