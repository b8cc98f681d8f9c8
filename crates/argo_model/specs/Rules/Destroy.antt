-- A domain ends, is reset, or is made anew.
use Rattle.std.specs.Prelude.{ℕ, ◌+◌, false, not, ◌==◌, List, [], map, filter, is_none, Some, None}
use Rattle.argo_base.specs.declared.errno.Errno.TheVariants.{Srch, Exist}
use Rattle.argo_base.specs.declared.ring_key.RingKey.{RingKey}
use Rattle.argo_model.specs.declared.action.Outcome.TheVariants.{Done}
use Rattle.argo_model.specs.Rules.State.{State, Domain, Live, Ring, domain_of, change_domain, change_life, is_alive, fresh_live}
use Rattle.argo_model.specs.Rules.Effects.{Change, Effect, leaving, refuse_if, after}
use Rattle.argo_base.specs.Notices.{withdrawn}

-- a ring without a domain's notice
abbrev pub ring_without : ℕ → Ring → Ring
ring_without d r = record r { notices = withdrawn r.notices d }

-- the rings of a domain without those that another has as single partner, and without the other's notices
abbrev pub rings_without : ℕ → List (RingKey × Ring) → List (RingKey × Ring)
rings_without d rings = map (λ e. (e.0, ring_without d e.1)) (filter (λ e. not (e.0.partner == d)) rings)

abbrev pub live_without : ℕ → Live → Live
live_without d live = record live { rings = rings_without d live.rings }

-- every ring that is registered for the domain as single partner ends, and so do its notices; nobody is signalled
abbrev pub forget : State → ℕ → State
forget s d = map (λ e. (e.0, change_life (live_without d) e.1)) s

-- it is gone, with all that it had
abbrev pub gone_domain : Domain → Domain
gone_domain x = record x { life = None }

-- its rings end and its flag is clear; it keeps its memory and its next serial
abbrev pub reset_live : Live → Live
reset_live live = record live { flag = false; rings = [] }

-- it starts as every domain does, in its next generation
abbrev pub next_domain : Domain → Domain
next_domain x = record x { generation = x.generation + 1; life = Some (fresh_live x.pages) }

-- an act on all domains, in the state
abbrev pub change_all : State → Change State → Effect
change_all s c = record { outcome = c.outcome; state = after s c }

-- a domain that is alive is destroyed
abbrev pub destroy : State → ℕ → Effect
destroy s d = change_all s (refuse_if (not (is_alive s d)) Srch (leaving Done (change_domain (forget s d) d gone_domain)))

-- a domain that is alive is reset
abbrev pub reset : State → ℕ → Effect
reset s d = change_all s (refuse_if (not (is_alive s d)) Srch (leaving Done (change_domain (forget s d) d (change_life reset_live))))

-- a domain of the script that is gone is created anew
abbrev pub create : State → ℕ → Effect
create s d =
    change_all s (
    refuse_if (is_none (domain_of s d)) Srch (
    refuse_if (is_alive s d) Exist (
    leaving Done (change_domain s d next_domain))))
