-- The notices of a ring: the senders that wait for room in it, by rising domain, each with the size of body that it waits for.
use Rattle.std.specs.Prelude.{ℕ, max, Bool, ◌&&◌, nat_le, is_none, unwrap_or, List, length, map, Option}
use Rattle.std.specs.Ordering.{nat_cmp}
use Rattle.std.specs.Map.{lookup, remove_entry}
use Rattle.std.specs.BTreeMap.{is_at, insert_entry}
use Rattle.argo_base.specs.Limits.{most_notices}
use Rattle.argo_base.specs.Slots.{fits, is_too_big}

abbrev pub Notices : Type 0
Notices = List (ℕ × ℕ)

-- the size that a domain waits for
abbrev pub size_of : Notices → ℕ → Option ℕ
size_of notices d = lookup (is_at (nat_cmp d)) notices

-- there is no place for a notice of the domain: it has none, and the most stand
abbrev pub is_busy : Notices → ℕ → Bool
is_busy notices d = is_none (size_of notices d) && nat_le most_notices (length notices)

-- the domain's notice is set, or raised to the greater size
abbrev pub noted : Notices → ℕ → ℕ → Notices
noted notices d n = insert_entry nat_cmp notices d (max n (unwrap_or (size_of notices d) 0))

-- the domain has no notice
abbrev pub withdrawn : Notices → ℕ → Notices
withdrawn notices d = remove_entry (is_at (nat_cmp d)) notices

-- a notice whose size fits into so many free bytes
abbrev pub fits_now : ℕ → ℕ × ℕ → Bool
fits_now free n = fits free n.1

-- a notice whose size can never fit into a ring of that length
abbrev pub never_fits : ℕ → ℕ × ℕ → Bool
never_fits len n = is_too_big len n.1

-- the domains of notices
abbrev pub doms_of : Notices → List ℕ
doms_of notices = map (λ n. n.0) notices
