-- How a run stands: its domains with all that they hold, and the replies of each section with their steps.
use Rattle.std.specs.Prelude.{ℕ, ◌+◌, ◌==◌, true, false, List, [], ◌∷◌, ◌++◌, length, map, filter, Option, Some, None}
use Rattle.std.specs.List.{range_with_len}
use Rattle.argo_base.specs.declared.ring_key.RingKey.{RingKey}
use Rattle.argo_model.specs.declared.reply.Reply.{Reply}
use Rattle.argo_model.specs.declared.closed.ClosedRing.{ClosedRing}
use Rattle.argo_model.specs.declared.closed.ClosedDomain.{ClosedDomain}
use Rattle.argo_model.specs.declared.closed.HeardLine.{HeardLine}
use Rattle.argo_model.specs.Rules.State.{Ring, Live, Domain, State}
use Rattle.argo_model.specs.Runs.Run.{Step, Course}
use Rattle.argo_model.specs.Runs.Final.{notice_line_of}

-- a ring under its key
abbrev pub closed_ring : RingKey × Ring → ClosedRing
closed_ring e =
    record {
      key = e.0;
      serial = e.1.serial;
      len = e.1.len;
      tx = e.1.tx;
      clean = e.1.clean;
      untaken = e.1.untaken;
      notices = map notice_line_of e.1.notices;
      pages = e.1.pages;
    }

-- a domain that is gone has a clear flag, no bytes and no rings
abbrev pub closed_life : ℕ → Domain → Option Live → ClosedDomain
closed_life d x None = record { id = d; alive = false; generation = x.generation; flag = false; pages = []; rings = [] }
closed_life d x (Some live) =
    record { id = d; alive = true; generation = x.generation; flag = live.flag; pages = live.bytes; rings = map closed_ring live.rings }

abbrev pub closed_domain : ℕ × Domain → ClosedDomain
closed_domain e = closed_life e.0 e.1 e.1.life

-- the domains of a state, by rising id
abbrev pub closed_domains : State → List ClosedDomain
closed_domains s = map closed_domain s

-- the reply, if any, that came at a section's n-th step
abbrev pub heard_at : ℕ → Option Reply → List HeardLine
heard_at n None = []
heard_at n (Some r) = record { reply = r; step = n } ∷ []

-- the replies among a section's steps, of which the first is its n-th
abbrev pub heard_from : ℕ → List Step → List HeardLine
heard_from n [] = []
heard_from n (t ∷ ts) = heard_at n t.reply ++ heard_from (n + 1) ts

-- the steps of section v
abbrev pub steps_by : ℕ → List Step → List Step
steps_by v steps = filter (λ t. t.vcpu == v) steps

-- the replies of section v, each with the number of the section's step at which it came, from 1
abbrev pub heard_of : List Step → ℕ → List HeardLine
heard_of steps v = heard_from 1 (steps_by v steps)

-- the replies of every section, by its number
abbrev pub heard_all : Course → List (List HeardLine)
heard_all c = map (heard_of c.steps) (range_with_len 0 (length c.sections))
