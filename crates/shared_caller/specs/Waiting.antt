-- Who is to wait for room in a ring.
use Rattle.std.specs.Prelude.{ℕ, Bool, ◌&&◌, ◌||◌, not, nat_lt, length, is_some}
use Rattle.argo_base.specs.Limits.{most_notices}
use Rattle.argo_base.specs.Match.{is_wildcard}
use Rattle.argo_base.specs.Notices.{size_of}
use Rattle.argo_base.specs.Slots.{fits, is_too_big}
use Rattle.argo_model.specs.Rules.RingBytes.{free}
use Rattle.ring_core.specs.Held.{Held, paged}

-- a domain that has no notice on the ring gets one where it asks for room for so many bytes
abbrev pub will_wait : Held → ℕ → Bool
will_wait h size = not (is_too_big h.len size) && (not (fits (free (paged 0 h)) size) && nat_lt (length h.notices) most_notices)

-- the ring holds a notice of the domain
abbrev pub is_noted : Held → ℕ → Bool
is_noted h dom = is_some (size_of h.notices dom)

-- the ring is a wildcard ring that holds a notice of the domain, or is to hold one where it asks for room for so many bytes
abbrev pub is_listed : Held → ℕ → ℕ → Bool
is_listed h dom size = is_wildcard h.id.partner && (is_noted h dom || will_wait h size)
