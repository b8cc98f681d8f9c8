-- What contracts see of the domains of a shared world, and what always holds of them: what a script fixes of a domain stands
-- there, and what may change of it has changed only where a line of the script can do that.
use Rattle.std.specs.Prelude.{◌≡◌, ℕ, ◌+◌, ◌<◌, Bool, true, false, nat_lt, if◌then◌else◌, List, [], Option, Some, None, Result, Ok, Err, IsTrue, fold, ◌&&◌, ◌==◌}
use Rattle.std.specs.Ordering.{nat_cmp}
use Rattle.std.specs.Map.{lookup, set_value}
use Rattle.std.specs.BTreeMap.{is_at, insert_entry}
use Rattle.argo_base.specs.declared.errno.Errno.{Errno}
use Rattle.argo_base.specs.declared.errno.Errno.TheVariants.{Srch, Exist}
use Rattle.argo_model.specs.declared.scripts.DomainLine.{DomainLine}
use Rattle.argo_model.specs.Rules.Possible.{Facts, is_destroyed, is_on_line, gives_page}
use Rattle.argo_model.specs.Runs.Script.{has_domain}

-- how a domain stands: whether it is on and how many pages it has, which never change; how often it was made, from 1; and whether
-- it is alive
pub record Standing : Type 0 where
  pub on : Bool
  pub pages : ℕ
  pub generation : ℕ
  pub alive : Bool

-- a domain of this id may stand so: on and pages are those of its domain line, and where it is gone, or was made anew, a control
-- line destroys it
pub record MayStand (f : Facts) (d : ℕ) (x : Standing) : Type 0 where
  pub known : IsTrue (has_domain f.domains d)
  pub on : x.on ≡ is_on_line f d
  pub pages : (page : ℕ) → page < x.pages → IsTrue (gives_page f d page)
  pub gone : x.alive ≡ false → IsTrue (is_destroyed f d)
  pub anew : (x.generation ≡ 1 → ⊥) → IsTrue (is_destroyed f d)

abbrev pub MayBeFound : Facts → ℕ → Option Standing → Type 0
MayBeFound f d None = has_domain f.domains d ≡ false
MayBeFound f d (Some x) = MayStand f d x

-- the domains are those of the script, and each may stand as it does
abbrev pub AreOf : Facts → List (ℕ × Standing) → Type 0
AreOf f xs = (d : ℕ) → MayBeFound f d (lookup (is_at (nat_cmp d)) xs)

-- how a domain stands, where it is one of these
abbrev pub standing_at : List (ℕ × Standing) → ℕ → Option Standing
standing_at xs d = lookup (is_at (nat_cmp d)) xs

-- whether it is alive
abbrev pub is_alive : Option Standing → Bool
is_alive None = false
is_alive (Some x) = x.alive

-- whether it is alive in this generation
abbrev pub is_alive_in : ℕ → Option Standing → Bool
is_alive_in g None = false
is_alive_in g (Some x) = x.alive && (x.generation == g)

-- why a domain cannot begin anew, where it cannot
abbrev pub refusal_of : Option Standing → Option Errno
refusal_of None = Some Srch
refusal_of (Some x) = if x.alive then Some Exist else None

-- the error, where there is one
abbrev pub error_of : {X : Type 0} → Result X Errno → Option Errno
error_of (Ok _) = None
error_of (Err e) = Some e

-- the domains of these lines, as they start
abbrev pub fresh : DomainLine → Standing
fresh l = record { on = l.on; pages = l.pages; generation = 1; alive = true }

abbrev pub fresh_all : List DomainLine → List (ℕ × Standing)
fresh_all lines = fold (λ xs l. insert_entry nat_cmp xs l.id (fresh l)) [] lines

-- a domain that is gone
abbrev pub ended : Standing → Standing
ended x = record x { alive = false }

-- the next generation, up to the last
abbrev pub next_generation : ℕ → ℕ
next_generation g = if nat_lt g 0xFFFFFFFF then g + 1 else g

-- a domain that is alive in its next generation
abbrev pub begun : Standing → Standing
begun x = record x { generation = next_generation x.generation; alive = true }

-- the domains, where one that is there has changed so
abbrev pub change_found : List (ℕ × Standing) → ℕ → (Standing → Standing) → Option Standing → List (ℕ × Standing)
change_found xs d change None = xs
change_found xs d change (Some x) = set_value (is_at (nat_cmp d)) xs (change x)

abbrev pub change_domain : List (ℕ × Standing) → ℕ → (Standing → Standing) → List (ℕ × Standing)
change_domain xs d change = change_found xs d change (lookup (is_at (nat_cmp d)) xs)

-- a domain that is alive, as an action finds it
abbrev pub living : Bool → ℕ → ℕ → Standing
living is_on pages generation = record { on = is_on; pages = pages; generation = generation; alive = true }

-- what an action finds of a domain that is alive: it is one of the script's, on as its line says, with no page more than that gives
pub record IsParty (f : Facts) (d : ℕ) (is_on : Bool) (count : ℕ) : Type 0 where
  pub known : IsTrue (has_domain f.domains d)
  pub on : is_on ≡ is_on_line f d
  pub pages : (page : ℕ) → page < count → IsTrue (gives_page f d page)
