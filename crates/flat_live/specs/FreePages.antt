-- How it is found that pages are free for a ring: a table has for each page of a memory whether it is taken.
use Rattle.std.specs.Prelude.{ℕ, Bool, true, ◌&&◌, not, if◌then◌else◌, List, [], ◌∷◌, slice_index_or, slice_set}
use Rattle.std.specs.BTreeMap.{is_at}
use Rattle.argo_base.specs.declared.ring_key.RingKey.{RingKey}
use Rattle.argo_base.specs.Match.{key_cmp}
use Rattle.argo_model.specs.Rules.State.{Ring}

-- a page that is not in the table counts as taken
abbrev pub is_taken : List Bool → ℕ → Bool
is_taken table page = slice_index_or table page true

-- the table after these pages are taken
abbrev pub with_pages : List Bool → List ℕ → List Bool
with_pages table [] = table
with_pages table (p ∷ ps) = with_pages (slice_set table p true) ps

-- the table after the pages of all rings but the one of this key are taken
abbrev pub with_others : RingKey → List Bool → List (RingKey × Ring) → List Bool
with_others key table [] = table
with_others key table (e ∷ es) =
    with_others key (if is_at (key_cmp key) e.0 then table else with_pages table e.1.pages) es

-- each page is free when its turn comes, and is taken then
abbrev pub are_free_in : List Bool → List ℕ → Bool
are_free_in table [] = true
are_free_in table (p ∷ ps) = not (is_taken table p) && are_free_in (slice_set table p true) ps
