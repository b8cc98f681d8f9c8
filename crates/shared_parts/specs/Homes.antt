-- In which ring a page stands that is lent.
use Rattle.std.specs.Prelude.{ℕ, ◌+◌, List, [], ◌∷◌, Option, Some, None, slice_set, slice_index_or}
use Rattle.argo_base.specs.declared.ring_key.RingKey.{RingKey}
use Rattle.shared_parts.specs.declared.homes.Home.{Home}

-- the ring of this key, and the page's place among the ring's
abbrev pub home : RingKey → ℕ → Home
home key place = record { key = key; place = place }

-- where the page of a number stands, where it stands in a ring
abbrev pub home_at : List (Option Home) → ℕ → Option Home
home_at homes n = slice_index_or homes n None

-- the home of one page, which is one of the domain's
abbrev pub with_home : ℕ → Option Home → List (Option Home) → List (Option Home)
with_home n home homes = slice_set homes n home

-- the pages of these numbers stand in the ring of the key, from a place on
abbrev pub settled : RingKey → ℕ → List ℕ → List (Option Home) → List (Option Home)
settled key place [] homes = homes
settled key place (n ∷ ns) homes = settled key (place + 1) ns (with_home n (Some (home key place)) homes)

-- the pages of these numbers stand in no ring
abbrev pub cleared : List ℕ → List (Option Home) → List (Option Home)
cleared [] homes = homes
cleared (n ∷ ns) homes = cleared ns (with_home n None homes)
