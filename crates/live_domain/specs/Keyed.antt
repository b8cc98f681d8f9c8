-- A ring of a key, and who waits for room in it.
use Rattle.std.specs.Prelude.{ℕ, Bool, false, [], is_some, Option, Some, None}
use Rattle.std.specs.Map.{set_value}
use Rattle.std.specs.BTreeMap.{is_at}
use Rattle.argo_base.specs.Match.{key_cmp}
use Rattle.argo_base.specs.Notices.{Notices, size_of}
use Rattle.argo_base.specs.declared.ring_key.RingKey.{RingKey}
use Rattle.argo_model.specs.Rules.Destroy.{ring_without}
use Rattle.argo_model.specs.Rules.Register.{own_ring}
use Rattle.argo_model.specs.Rules.State.{Live, Ring}

-- a ring that stands has a notice of the domain
abbrev pub has_notice : Option Ring → ℕ → Bool
has_notice None d = false
has_notice (Some r) d = is_some (size_of r.notices d)

-- who waits for room in it
abbrev pub noted_on : Option Ring → Notices
noted_on None = []
noted_on (Some r) = r.notices

abbrev pub without_notice_of : Live → RingKey → ℕ → Option Ring → Live
without_notice_of live key d None = live
without_notice_of live key d (Some r) = record live { rings = set_value (is_at (key_cmp key)) live.rings (ring_without d r) }

-- what a domain has without a notice on one of its rings
abbrev pub without_notice : Live → RingKey → ℕ → Live
without_notice live key d = without_notice_of live key d (own_ring live key)
