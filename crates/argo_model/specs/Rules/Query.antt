-- A sender asks for room in a ring.
use Rattle.std.specs.Prelude.{ℕ, ◌+◌, ◌-◌, Bool, not, if◌then◌else◌, Option, Some, None}
use Rattle.argo_base.specs.declared.errno.Errno.TheVariants.{NoDev}
use Rattle.argo_base.specs.declared.ring_key.RingKey.{RingKey}
use Rattle.argo_base.specs.Slots.{fits, is_too_big}
use Rattle.argo_base.specs.Match.{is_wildcard, match_of}
use Rattle.argo_model.specs.declared.action.Answer.{Answer}
use Rattle.argo_model.specs.declared.action.Outcome.TheVariants.{Answer as Answered}
use Rattle.argo_model.specs.Rules.State.{State, Domain, Live, Ring, domain_of}
use Rattle.argo_base.specs.Notices.{Notices, is_busy, noted, withdrawn}
use Rattle.argo_model.specs.Rules.Effects.{Change, Effect, answered, leaving, refuse_if, lifted, change_in}
use Rattle.argo_model.specs.Rules.RingBytes.{PagedRing, paged, set_paged, with_notices, free, is_empty}

-- the flags of an answer
abbrev pub exists_flag : ℕ
exists_flag = 1

abbrev pub shared_flag : ℕ
shared_flag = 2

abbrev pub empty_flag : ℕ
empty_flag = 4

abbrev pub sufficient_flag : ℕ
sufficient_flag = 8

abbrev pub msgsize_flag : ℕ
msgsize_flag = 16

abbrev pub busy_flag : ℕ
busy_flag = 32

-- what becomes of a request for room: a flag, or none, and the notices of the ring after it
pub record Request : Type 0 where
  pub flag : ℕ
  pub notices : Notices

-- need bytes can never fit; or they fit, and the caller's notice is withdrawn; or too many others wait; or the caller waits
abbrev pub request : PagedRing → ℕ → ℕ → Request
request p d need =
    if is_too_big p.ring.len need then record { flag = msgsize_flag; notices = p.ring.notices }
    else if fits (free p) need then record { flag = sufficient_flag; notices = withdrawn p.ring.notices d }
    else if is_busy p.ring.notices d then record { flag = busy_flag; notices = p.ring.notices }
    else record { flag = 0; notices = noted p.ring.notices d need }

-- the flag where the test holds
abbrev pub flag_if : Bool → ℕ → ℕ
flag_if test flag = if test then flag else 0

-- the flags that say how the ring stands: it exists, and it may be a wildcard ring, and empty
abbrev pub standing_flags : PagedRing → RingKey → ℕ
standing_flags p key = exists_flag + flag_if (is_wildcard key.partner) shared_flag + flag_if (is_empty p) empty_flag

-- the answer of a ring under a key: how it stands, and what becomes of the request; the largest body that it can ever take; and
-- what was asked for
abbrev pub answer_of : PagedRing → RingKey → ℕ → ℕ → Answer
answer_of p key d need =
    record { flags = standing_flags p key + (request p d need).flag; need = need; most = p.ring.len - 32 }

abbrev pub query_ring : PagedRing → RingKey → ℕ → ℕ → Change PagedRing
query_ring p key d need = leaving (Answered (answer_of p key d need)) (with_notices p (request p d need).notices)

-- zeros, where no ring is met
abbrev pub no_answer : Answer
no_answer = record { flags = 0; need = 0; most = 0 }

abbrev pub query_match : Live → ℕ → ℕ → Option (RingKey × Ring) → Change Live
query_match live d need None = answered (Answered no_answer)
query_match live d need (Some e) = lifted (set_paged live e.0) (query_ring (paged live.bytes e.1) e.0 d need)

abbrev pub query_life : ℕ → ℕ → ℕ → Option Live → Change Live
query_life d to_port need None = answered (Answered no_answer)
query_life d to_port need (Some live) = query_match live d need (match_of live.rings to_port d)

-- a domain that is not there, is off or is gone has no ring to be met
abbrev pub query_domain : ℕ → ℕ → ℕ → Option Domain → Change Live
query_domain d to_port need None = answered (Answered no_answer)
query_domain d to_port need (Some x) = if x.on then query_life d to_port need x.life else answered (Answered no_answer)

-- the caller, which must be on, asks for room in the ring that it meets
abbrev pub query : State → ℕ → Domain → ℕ → ℕ → ℕ → Effect
query s d x to to_port need =
    change_in s to (refuse_if (not x.on) NoDev (query_domain d to_port need (domain_of s to)))
