-- Notices that end.
use Rattle.std.specs.Prelude.{ℕ}
use Rattle.argo_base.specs.Notices.{withdrawn}
use Rattle.argo_model.specs.Rules.RingBytes.{PagedRing, with_notices}

-- a ring without a domain's notice
abbrev pub forgotten : ℕ → PagedRing → PagedRing
forgotten d p = with_notices p (withdrawn p.ring.notices d)
