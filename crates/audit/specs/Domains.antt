-- How two domains of one id differ.
use Rattle.std.specs.Prelude.{ℕ, List, [], Option, Some, None}
use Rattle.std.specs.Ordering.{nat_cmp}
use Rattle.argo_base.specs.Match.{key_cmp}
use Rattle.argo_base.specs.declared.ring_key.RingKey.{RingKey}
use Rattle.argo_model.specs.declared.closed.ClosedDomain.{ClosedDomain}
use Rattle.argo_model.specs.declared.closed.ClosedRing.{ClosedRing}
use Rattle.audit.specs.declared.rows.DomainRow.{DomainRow}
use Rattle.audit.specs.declared.rows.DomainRow.TheVariants.{Alive, Flag, Ring, Memory, Generation}
use Rattle.audit.specs.declared.rows.RingRow.{RingRow}
use Rattle.audit.specs.declared.values.Values.{Values}
use Rattle.audit.specs.First.{differ, first_in, lists_differ, missing}
use Rattle.audit.specs.Names.{names_of, row_of}
use Rattle.audit.specs.Rings.{number_of, ring_differs}

-- a number of a domain
abbrev pub number_in : (ClosedDomain → ℕ) → Option ClosedDomain → ℕ
number_in f None = missing
number_in f (Some x) = f x

abbrev pub number_differs : (ClosedDomain → ℕ) → Option ClosedDomain → Option ClosedDomain → Option Values
number_differs f x y = differ (number_in f x) (number_in f y)

-- the rings of a domain, its memory
abbrev pub rings_in : Option ClosedDomain → List ClosedRing
rings_in None = []
rings_in (Some x) = x.rings

abbrev pub memory_in : Option ClosedDomain → List ℕ
memory_in None = []
memory_in (Some x) = x.pages

abbrev pub key_of : ClosedRing → RingKey
key_of r = r.key

-- the rings of a domain in one of their parts, by rising key
abbrev pub rings_of : RingRow → List ClosedRing → List ClosedRing → RingKey → Option Values
rings_of row xs ys k = ring_differs row (row_of key_cmp key_of xs k) (row_of key_cmp key_of ys k)

abbrev pub rings_differ : RingRow → List ClosedRing → List ClosedRing → Option Values
rings_differ row xs ys = first_in (rings_of row xs ys) (names_of key_cmp key_of xs ys)

abbrev pub domain_differs : DomainRow → Option ClosedDomain → Option ClosedDomain → Option Values
domain_differs Alive x y = number_differs (λ d. number_of d.alive) x y
domain_differs Flag x y = number_differs (λ d. number_of d.flag) x y
domain_differs (Ring row) x y = rings_differ row (rings_in x) (rings_in y)
domain_differs Memory x y = lists_differ missing (memory_in x) (memory_in y)
domain_differs Generation x y = number_differs (λ d. d.generation) x y

abbrev pub id_of : ClosedDomain → ℕ
id_of x = x.id

-- all domains in one of their parts, by rising id
abbrev pub domains_of : DomainRow → List ClosedDomain → List ClosedDomain → ℕ → Option Values
domains_of row xs ys d = domain_differs row (row_of nat_cmp id_of xs d) (row_of nat_cmp id_of ys d)

abbrev pub domains_differ : DomainRow → List ClosedDomain → List ClosedDomain → Option Values
domains_differ row xs ys = first_in (domains_of row xs ys) (names_of nat_cmp id_of xs ys)
