-- A put into the pages of a ring.
use Rattle.std.specs.Prelude.{ℕ, Bool, true, not, if◌then◌else◌, List, [], drop, Option, Some, None}
use Rattle.argo_base.specs.declared.message.Message.{Message}
use Rattle.argo_base.specs.Splice.{splice}
use Rattle.argo_model.specs.Rules.Puts.{ring_after_put}
use Rattle.argo_model.specs.Rules.RingBytes.{PagedRing}

-- the ring after these bytes were put from a byte of it on
abbrev pub put_in : PagedRing → ℕ → List ℕ → PagedRing
put_in p at bytes = record { ring = ring_after_put p at bytes; own = splice p.own at bytes }

-- whether a clean ring is clean after a put that takes so many messages, where it is a proper move, and that touches a word or a
-- slot, or none
abbrev pub clean_when : Option ℕ → Bool → Bool
clean_when (Some k) touched = true
clean_when None touched = not touched

-- and which messages are untaken then
abbrev pub untaken_when : Option ℕ → Bool → List Message → List Message
untaken_when (Some k) touched untaken = drop k untaken
untaken_when None touched untaken = if touched then [] else untaken
